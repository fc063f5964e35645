use Rattle.std.proofs.Common.{◌≡◌, ◌≤◌, map, vec_len, vec_capacity}
use Rattle.stream_model.specs.Lists.{below}
use Rattle.stream_model.specs.Network.{used_outputs}
use Rattle.flowgraph.specs.Flowgraph.{net_of}
use Rattle.plant_laws.specs.Opening.{empty_buffer}
use Rattle.plant_storage.specs.Stores.{buffer_of}
use Rattle.plant_storage.proofs.opening.row.Given as goal

abbrev pub invariant-loop-port : goal.invariant-loop-port
invariant-loop-port g l =
    let net = net_of g.B.Block.meaning l.graph in
    record {
      items : map buffer_of l.row.items ≡ map (empty_buffer net (map (λ row. row.items) l.capacities) l.block.0) (below l.port);
      many : vec_len l.row ≡ l.port;
      room : used_outputs net l.block.0 ≤ vec_capacity l.row;
    }
