use Rattle.std.proofs.Common.{map, arith, ap, ◌∙◌, ℕ, List, Vec}
use Rattle.std.specs.Global.{Global}
use Rattle.flowgraph.specs.Flowgraph.{net_of}
use Rattle.plant_laws.specs.Opening.{empty_buffer}
use Rattle.plant_storage.specs.Stores.{buffer_of}
use Rattle.plant_storage.proofs.Growing.{more_numbers}
use Rattle.plant_storage.proofs.opening.row.Goals as goal

pub loop-port-preserved : goal.loop-port-preserved
loop-port-preserved g c =
    let net = net_of g.B.Block.meaning c.args.graph.now in
    let caps = map {A = Vec ℕ Global} {B = List ℕ} (λ row. row.items) c.args.capacities.now in
    record {
      items = ap (map buffer_of) c.push_reserved.ensures.items
          ∙ more_numbers buffer_of (empty_buffer net caps c.args.block.0) c.loop-port.row.items c.in-Ok.buffer c.loop-port.port c.loop-port.invariant.items c.in-Ok.ensures;
      many = omega (arith, c.push_reserved.ensures.len);
      room = omega (arith, c.push_reserved.ensures.capacity);
    }
