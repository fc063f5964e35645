use Rattle.stream_model.proofs.Streams.{streams_unfold}
use Rattle.stream_laws.proofs.laws.streams_solve_their_equations.Goals as goal

pub returns : goal.returns
returns c = streams_unfold
