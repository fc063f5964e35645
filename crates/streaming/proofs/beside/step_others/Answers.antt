use Rattle.std.proofs.Common.{◌≡◌, true, ◌<◌, length, get_or, arith, ap, refl, sym, subst}
use Rattle.std.proofs.lemmas.List.{length-map}
use Rattle.stream_model.specs.Machine.{is_idle}
use Rattle.stream_laws.specs.CanRun.{CanRun}
use Rattle.machine_laws.specs.Sound.{Sound}
use Rattle.flowgraph.specs.Flowgraph.{Flowgraph, net_of, node_of}
use Rattle.flowgraph.specs.StepOrder.{IsOrderOf}
use Rattle.flowgraph.specs.declared.parts.BlockId.{BlockId}
use Rattle.plant.specs.Plant.{PlantState, plant_of}
use Rattle.streaming.specs.Beside.{IsTurn}
use Rattle.streaming.proofs.Holding.{as_first, block_at, has_moved, none-stepped, turned-on, turned-still}
use Rattle.streaming.proofs.Working.{led_none, led_then}
use Rattle.streaming.proofs.beside.step_others.Goals as goal
use Rattle.streaming.proofs.beside.step_others.Goals.{then-branch, else-branch}

pub loop-block-init : goal.loop-block-init
loop-block-init g c =
    let old = plant_of c.args.parts.now in
    record {
      led = led_none g.B.Block.meaning c.args.max c.args.parts.now c.args.parts.now c.requires.right refl;
      stepped = none-stepped c.args.held.now (net_of g.B.Block.meaning old.graph) old.capacities c.args.max c.writers_first-order.result.now old.state c.requires.idle;
    }

pub returns-in_err-moves-clause-led : goal.returns-in_err-moves-clause-led
returns-in_err-moves-clause-led g c = led_then g.B.Block.meaning c.args.max c.args.parts.now c.loop-block.parts c.moves.new.parts c.loop-block.invariant.led c.moves.ensures.led

pub returns-in_err-moves-clause-idle : goal.returns-in_err-moves-clause-idle
returns-in_err-moves-clause-idle g c = subst (λ (p : PlantState g.row.B.Denot). is_idle p.state ≡ true) (sym c.in_err-moves.ensures.err) c.loop-block.invariant.stepped.idle

pub loop-block-preserved : goal.loop-block-preserved
loop-block-preserved g c =
    let old = plant_of c.args.parts.now in
    let now = plant_of c.loop-block.parts in
    let new = plant_of c.moves.new.parts in
    let net = net_of g.B.Block.meaning old.graph in
    let held = c.args.held.now in
    let so_far = c.loop-block.invariant in
    let same = so_far.led.worked.same in
    let order = c.writers_first-order.result.now in
    let k = c.loop-block.block-index in
    let can : CanRun net = rw (← c.deref.ensures) c.recall.ensures.runs in
    let few : block_at order k < length old.graph.blocks = omega (arith, c.writers_first-order.ensures.within k (record { 0 = 0 }) c.loop-block-test.true, ap (λ (x : Flowgraph g.row.B.Denot). length x.blocks) c.deref-2.ensures, ap (λ (x : Flowgraph g.row.B.Denot). length x.blocks) c.in_ok-graph.ensures) in
    let in' : block_at order k < length net.nodes = rw length-map few in
    let sound : Sound net old.capacities now.state = as_first g.B.Block.meaning held c.args.max c.args.max old now same (λ n caps. Sound n caps now.state) so_far.led.right.keeps.sound in
    let turn : IsTurn held net old.capacities c.args.max now.state new.state (block_at order k) c.in_ok-moves.field-0 =
    as_first g.B.Block.meaning held c.args.max c.args.max old now same (λ n caps. IsTurn held n caps c.args.max now.state new.state (block_at order k) c.in_ok-moves.field-0) c.in_ok-moves.ensures.turn in
    record {
      led = led_then g.B.Block.meaning c.args.max c.args.parts.now c.loop-block.parts c.moves.new.parts so_far.led c.moves.ensures.led;
      stepped = elim c.if-branch.branch [
        | then-branch w ↦ rw w.moved-is (turned-on held net old.capacities c.args.max order old.state now.state k c.loop-block.moved so_far.stepped can sound c.requires.some in' new.state _ w.if-branch.true turn)
        | else-branch w ↦ rw w.moved-is (turned-still held net old.capacities c.args.max order old.state now.state k c.loop-block.moved so_far.stepped can sound c.requires.some in' new.state _ w.if-branch.false turn)
      ];
    }

pub returns-clause-moved : goal.returns-clause-moved
returns-clause-moved g c =
    let old = plant_of c.args.parts.now in
    let net = net_of g.B.Block.meaning old.graph in
    let order = c.writers_first-order.result.now in
    let blocks : length c.deref-2.result.now.blocks ≡ length net.nodes = omega (arith, length-map old.graph.blocks (node_of g.B.Block.meaning), ap (λ (x : Flowgraph g.row.B.Denot). length x.blocks) c.deref-2.ensures, ap (λ (x : Flowgraph g.row.B.Denot). length x.blocks) c.in_ok-graph.ensures) in
    let all : IsOrderOf (length net.nodes) order = subst (λ n. IsOrderOf n order) blocks c.writers_first-order.ensures in
    has_moved c.args.held.now net old.capacities c.args.max order old.state all c.loop-block.block-index c.loop-block-test.false (plant_of c.loop-block.parts).state c.requires.some c.loop-block.moved c.loop-block.invariant.stepped
