use Rattle.stream_laws.proofs.ClosedForms.{closed_forms}
use Rattle.stream_laws.proofs.laws.closed_forms_are_right.Goals as goal

pub returns : goal.returns
returns c = closed_forms
