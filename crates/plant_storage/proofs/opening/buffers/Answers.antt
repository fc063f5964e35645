use Rattle.std.proofs.Common.{map, arith, ap, ◌∙◌, ℕ, List, Vec}
use Rattle.std.specs.Global.{Global}
use Rattle.stream_model.specs.Lists.{below}
use Rattle.stream_model.specs.Network.{used_outputs}
use Rattle.flowgraph.specs.Flowgraph.{net_of}
use Rattle.buffers.specs.Buffer.{BufferState}
use Rattle.plant_laws.specs.Opening.{empty_buffer}
use Rattle.plant_storage.specs.Stores.{buffer_of}
use Rattle.plant_storage.proofs.Growing.{more_numbers}
use Rattle.plant_storage.proofs.opening.buffers.Goals as goal

pub loop-block-preserved : goal.loop-block-preserved
loop-block-preserved g c =
    let net = net_of g.B.Block.meaning c.args.graph.now in
    let caps = map {A = Vec ℕ Global} {B = List ℕ} (λ row. row.items) c.args.capacities.now in
    record {
      items = ap (map (λ (row : Vec BufferState Global). map buffer_of row.items)) c.push_reserved.ensures.items
          ∙ more_numbers (λ (row : Vec BufferState Global). map buffer_of row.items) (λ b. map (empty_buffer net caps b) (below (used_outputs net b))) c.loop-block.rows.items c.in_ok-row.field-0
          c.loop-block.block c.loop-block.invariant.items c.in_ok-row.ensures;
      many = omega (arith, c.push_reserved.ensures.len);
      room = omega (arith, c.push_reserved.ensures.capacity);
    }
