use Rattle.slice_laws.proofs.Streams.{resumes_itself}
use Rattle.slice_laws.proofs.laws.forgetting_resumes.Goals as goal

pub returns : goal.returns
returns c = resumes_itself
