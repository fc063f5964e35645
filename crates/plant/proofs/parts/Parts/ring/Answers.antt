use Rattle.std.proofs.Common.{◌≡◌, ◌<◌, ◌≤◌, length, Some, arith, ap, ◌∙◌}
use Rattle.std.specs.Arc.{arc_value}
use Rattle.flowgraph.specs.Flowgraph.{net_of}
use Rattle.plant.specs.Plant.{plant_of}
use Rattle.plant.proofs.Following.{followed_turn, ring_found, on_ring}
use Rattle.plant.proofs.parts.Parts.ring.Goals as goal

pub loop-turn-preserved : goal.loop-turn-preserved
loop-turn-preserved g c =
    let plant = plant_of c.args.self.now in
    let net = net_of g.B.Block.meaning (arc_value c.args.self.now.graph) in
    let nodes : c.len-turn-end.result ≡ length net.nodes = rw (← c.deref-2.ensures) c.len-turn-end.ensures.nodes in
    let end = c.loop-turn.auto._turn-end in
    let low : c.loop-turn._turn < length net.nodes = omega (arith, nodes, end, c.loop-turn-test.true) in
    record {
      inside = c.next_of-block.ensures.inside;
      left = ap Some (followed_turn net plant.capacities plant.state (length net.nodes) c.loop-turn._turn c.loop-turn.block.0 c.next_of-block.result.0 low c.next_of-block.ensures.value)
          ∙ c.loop-turn.invariant.left;
    }

pub returns-clause-value : goal.returns-clause-value
returns-clause-value g c =
    let plant = plant_of c.args.self.now in
    let net = net_of g.B.Block.meaning (arc_value c.args.self.now.graph) in
    let nodes : c.len-turn-end.result ≡ length net.nodes = rw (← c.deref-2.ensures) c.len-turn-end.ensures.nodes in
    let end = c.loop-turn.auto._turn-end in
    let past : length net.nodes ≤ c.loop-turn._turn = omega (arith, nodes, end, c.loop-turn-test.false) in
    ring_found net plant.capacities plant.state (length net.nodes) c.loop-turn._turn c.loop-turn.block.0 past c.loop-turn.invariant.left

pub returns-clause-comes_back : goal.returns-clause-comes_back
returns-clause-comes_back g c closed quiet =
    let plant = plant_of c.args.self.now in
    let net = net_of g.B.Block.meaning (arc_value c.args.self.now.graph) in
    let nodes : c.len-turn-end.result ≡ length net.nodes = rw (← c.deref-2.ensures) c.len-turn-end.ensures.nodes in
    let end = c.loop-turn.auto._turn-end in
    let past : length net.nodes ≤ c.loop-turn._turn = omega (arith, nodes, end, c.loop-turn-test.false) in
    on_ring net plant.capacities plant.state (rw (← c.deref.ensures) c.recall.ensures.runs) c.requires.keeps.sound closed quiet c.loop-turn.block.0
    (ring_found net plant.capacities plant.state (length net.nodes) c.loop-turn._turn c.loop-turn.block.0 past c.loop-turn.invariant.left)
