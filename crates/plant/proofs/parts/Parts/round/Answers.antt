use Rattle.std.proofs.Common.{◌≡◌, ◌<◌, length, get_or, arith, ap, refl, sym, ◌∙◌, subst}
use Rattle.std.proofs.lemmas.List.{get_or_default, length-map}
use Rattle.stream_laws.specs.CanRun.{CanRun}
use Rattle.flowgraph.specs.declared.parts.BlockId.{BlockId}
use Rattle.flowgraph.specs.Flowgraph.{Flowgraph, net_of, node_of}
use Rattle.flowgraph.specs.StepOrder.{IsOrderOf}
use Rattle.plant.specs.Plant.{plant_of}
use Rattle.plant.proofs.Rounds.{has_moved, none-stepped}
use Rattle.plant.proofs.Settles.{is_stepped_on, is_stepped_still}
use Rattle.plant.proofs.parts.Parts.round.Goals as goal
use Rattle.plant.proofs.parts.Parts.round.Goals.{then-branch, else-branch}

abbrev nobody : BlockId
nobody = record { 0 = 0 }

pub loop-block-init : goal.loop-block-init
loop-block-init g c =
    let old = plant_of c.args.self.now in
    record {
      right = c.requires.right;
      spans = refl;
      stepped = record {
        same = refl;
        states = none-stepped (net_of g.B.Block.meaning old.graph) old.capacities c.args.max c.writers_first-order.result.now old.state c.requires.idle;
      };
    }

pub loop-block-preserved : goal.loop-block-preserved
loop-block-preserved g c =
    let old = plant_of c.args.self.now in
    let now = plant_of c.loop-block.self in
    let so_far = c.loop-block.invariant.stepped in
    let order = c.writers_first-order.result.now in
    let k = c.loop-block.block-index in
    let block = get_or order k nobody in
    let here = c.loop-block-test.true in
    let is_there : get_or order k block ≡ block = get_or_default order k block nobody here in
    let can : CanRun (net_of g.B.Block.meaning old.graph) = rw (← c.deref.ensures) c.recall.ensures.runs in
    let few : block.0 < length old.graph.blocks = omega (arith, c.writers_first-order.ensures.within k nobody here, ap (λ (x : Flowgraph g.row.B.Denot). length x.blocks) c.deref-2.ensures, ap (λ (x : Flowgraph g.row.B.Denot). length x.blocks) c.in_ok-graph.ensures) in
    let in' : block.0 < length (net_of g.B.Block.meaning old.graph).nodes = rw length-map few in
    record {
      right = c.moves.ensures.right;
      spans = c.moves.ensures.spans ∙ c.loop-block.invariant.spans;
      stepped = elim c.if-branch.branch [
        | then-branch w ↦ rw w.moved-is (is_stepped_on g.B.Block.meaning c.args.max old now so_far.same order k block here is_there c.loop-block.moved so_far.states can c.loop-block.invariant.right.keeps.sound c.requires.some in' (plant_of c.moves.new.self) c.in_ok-moves.ensures.step (sym c.in_ok-moves.ensures.moved ∙ w.if-branch.true))
        | else-branch w ↦ rw w.moved-is (is_stepped_still g.B.Block.meaning c.args.max old now so_far.same order k block here is_there c.loop-block.moved so_far.states can c.loop-block.invariant.right.keeps.sound c.requires.some in' (plant_of c.moves.new.self) c.in_ok-moves.ensures.step (sym c.in_ok-moves.ensures.moved ∙ w.if-branch.false))
      ];
    }

pub returns-clause-moved : goal.returns-clause-moved
returns-clause-moved g c =
    let old = plant_of c.args.self.now in
    let net = net_of g.B.Block.meaning old.graph in
    let order = c.writers_first-order.result.now in
    let can : CanRun net = rw (← c.deref.ensures) c.recall.ensures.runs in
    let blocks : length c.deref-2.result.now.blocks ≡ length net.nodes = omega (arith, length-map old.graph.blocks (node_of g.B.Block.meaning), ap (λ (x : Flowgraph g.row.B.Denot). length x.blocks) c.deref-2.ensures, ap (λ (x : Flowgraph g.row.B.Denot). length x.blocks) c.in_ok-graph.ensures) in
    let all : IsOrderOf (length net.nodes) order = subst (λ n. IsOrderOf n order) blocks c.writers_first-order.ensures in
    has_moved net old.capacities c.args.max order old.state all c.loop-block.block-index c.loop-block-test.false can (plant_of c.loop-block.self).state c.requires.right.keeps.sound c.requires.idle c.requires.some c.loop-block.moved c.loop-block.invariant.stepped.states
