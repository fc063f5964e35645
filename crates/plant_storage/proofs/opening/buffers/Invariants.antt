use Rattle.std.proofs.Common.{◌≡◌, ◌≤◌, map, length, vec_len, vec_capacity}
use Rattle.std.specs.Prelude.{Vec}
use Rattle.std.specs.Global.{Global}
use Rattle.stream_model.specs.Lists.{below}
use Rattle.stream_model.specs.Network.{used_outputs}
use Rattle.flowgraph.specs.Flowgraph.{net_of}
use Rattle.buffers.specs.Buffer.{BufferState}
use Rattle.plant_laws.specs.Opening.{empty_buffer}
use Rattle.plant_storage.specs.Stores.{buffer_of}
use Rattle.plant_storage.proofs.opening.buffers.Given as goal

abbrev pub invariant-loop-block : goal.invariant-loop-block
invariant-loop-block g l =
    let net = net_of g.B.Block.meaning l.graph in
    record {
      items : map (λ (row : Vec BufferState Global). map buffer_of row.items) l.rows.items ≡ map (λ b. map (empty_buffer net (map (λ row. row.items) l.capacities) b) (below (used_outputs net b))) (below l.block);
      many : vec_len l.rows ≡ l.block;
      room : length net.nodes ≤ vec_capacity l.rows;
    }
