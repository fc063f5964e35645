use Rattle.std.proofs.Common.{◌≡◌, false, take}
use Rattle.std.specs.List.{list_any}
use Rattle.stream_model.specs.Network.{enters}
use Rattle.flowgraph.specs.Flowgraph.{connection_of}
use Rattle.flowgraph.proofs.refusals.is_taken.Given as goal

abbrev pub invariant-loop-connection : goal.invariant-loop-connection
invariant-loop-connection l = list_any (λ x. enters l.block.0 l.port (connection_of x)) (take l.connection-index l.connections) ≡ false
