-- What was handed to a plant, and where it began.
use Rattle.std.specs.Prelude.{List}
use Rattle.stream_model.specs.Network as model
use Rattle.stream_model.specs.Network.{State}
use Rattle.flowgraph.specs.Flowgraph.{Flowgraph}

-- the graph, and what each of its blocks was handed
pub record HandedState (B : Type 0) : Type 0 where
  pub graph : Flowgraph B
  pub handed : List model.Handed

-- the graph, and the machine's state
pub record OpeningState (B : Type 0) : Type 0 where
  pub graph : Flowgraph B
  pub state : State
