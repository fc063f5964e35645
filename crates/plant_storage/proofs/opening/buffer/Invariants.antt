use Rattle.std.proofs.Common.{◌≡◌, map, take}
use Rattle.stream_model.specs.Network.{node_at}
use Rattle.stream_model.specs.Machine.{capacity_at}
use Rattle.flowgraph.specs.Flowgraph.{net_of, connection_of}
use Rattle.plant_laws.specs.Holds.{greatest_history}
use Rattle.plant_storage.specs.Stores.{buffer_of}
use Rattle.plant_storage.proofs.Beginning.{buffer_with}
use Rattle.plant_storage.proofs.opening.buffer.Given as goal

abbrev pub invariant-loop-connection : goal.invariant-loop-connection
invariant-loop-connection g l =
    let net = net_of g.B.Block.meaning l.graph in
    let b = l.fn.block.0 in
    buffer_of l.buffer
    ≡ buffer_with net (node_at net b).meaning.outputs.item (capacity_at (map (λ row. row.items) l.capacities) b l.port) (greatest_history net b l.port) (take l.connection-index (map connection_of l.readers))
