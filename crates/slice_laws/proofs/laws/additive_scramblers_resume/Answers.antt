use Rattle.slice_laws.proofs.Jumps.{additive_scrambler-resumes}
use Rattle.slice_laws.proofs.laws.additive_scramblers_resume.Goals as goal

pub returns : goal.returns
returns c = additive_scrambler-resumes
