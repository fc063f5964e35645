use Rattle.std.proofs.Common.{◌≡◌, map, take}
use Rattle.flowgraph.specs.Flowgraph.{net_of, connection_of}
use Rattle.plant_storage.specs.Opening.{history_among}
use Rattle.plant_storage.proofs.opening.greatest_history.Given as goal

abbrev pub invariant-loop-connection : goal.invariant-loop-connection
invariant-loop-connection g l = l.greatest ≡ history_among (net_of g.B.Block.meaning l.graph) (map connection_of (take l.connection-index l.connections))
