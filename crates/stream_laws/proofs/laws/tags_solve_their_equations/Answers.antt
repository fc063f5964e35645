use Rattle.stream_laws.proofs.TagEquation.{tags_unfold}
use Rattle.stream_laws.proofs.laws.tags_solve_their_equations.Goals as goal

pub returns : goal.returns
returns c = tags_unfold
