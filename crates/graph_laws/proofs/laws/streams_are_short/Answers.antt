use Rattle.graph_laws.proofs.Short.{streams_are_short}
use Rattle.graph_laws.proofs.laws.streams_are_short.Goals as goal

pub returns : goal.returns
returns c = streams_are_short
