use Rattle.slice_laws.proofs.Jumps.{head-resumes}
use Rattle.slice_laws.proofs.laws.heads_resume.Goals as goal

pub returns : goal.returns
returns c = head-resumes
