use Rattle.std.proofs.Common.{ap, sym}
use Rattle.std.specs.Fmt.{digits}
use Rattle.flow_core.specs.Starts.{start_text}
use Rattle.flow_core.proofs.start_fault.StartFault.text.Goals as goal

-- the number in the text is computed
pub returns-in-NoFile : goal.returns-in-NoFile
unfolding digits
returns-in-NoFile c = ap start_text (sym c.in-NoFile.is)

pub returns-in-Memory : goal.returns-in-Memory
unfolding digits
returns-in-Memory c = ap start_text (sym c.in-Memory.is)

pub returns-in-NoOutput : goal.returns-in-NoOutput
unfolding digits
returns-in-NoOutput c = ap start_text (sym c.in-NoOutput.is)
