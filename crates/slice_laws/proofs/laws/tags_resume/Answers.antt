use Rattle.slice_laws.proofs.TagStreams.{tags_resume}
use Rattle.slice_laws.proofs.laws.tags_resume.Goals as goal

pub returns : goal.returns
returns c = tags_resume
