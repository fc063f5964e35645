use Rattle.slice_laws.proofs.Streams.{streams_resume}
use Rattle.slice_laws.proofs.laws.streams_resume.Goals as goal

pub returns : goal.returns
returns c = streams_resume
