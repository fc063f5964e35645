use Rattle.std.proofs.Common.{◌≡◌, ◌≤◌, length, arith, ap, sym, refl, ◌∙◌, subst, inl, inr}
use Rattle.std.proofs.lemmas.Bool.{cases_eq}
use Rattle.std.proofs.lemmas.List.{length-map}
use Rattle.std.specs.Arc.{arc_value}
use Rattle.stream_model.specs.Network.{Progress, progress_at}
use Rattle.flowgraph.specs.Flowgraph.{Flowgraph, node_of}
use Rattle.plant.specs.Plant.{PlantState, plant_of}
use Rattle.streaming.proofs.Working.{led_none, led_then}
use Rattle.streaming.proofs.GivingUp.{idle_from}
use Rattle.streaming.proofs.helped.give_all_up.Goals as goal

pub loop-block-init : goal.loop-block-init
loop-block-init g c = record {
  led = λ most. led_none g.B.Block.meaning most c.args.parts.now c.args.parts.now c.requires.right refl;
  none = λ b lt. absurd (omega (arith, lt));
}

pub loop-block-preserved : goal.loop-block-preserved
loop-block-preserved g c =
    let new = plant_of c.give_up.new.parts in
    let block = c.loop-block.block in
    record {
      led = λ most. led_then g.B.Block.meaning most c.args.parts.now c.loop-block.parts c.give_up.new.parts (c.loop-block.invariant.led most) (c.give_up.ensures.led most);
      none = λ b lt. elim (cases_eq b block) [
        | inl e ↦ subst (λ k. (progress_at new.state.progress k).claimed ≡ 0) (sym e) c.give_up.ensures.own
        | inr other ↦ ap (λ (p : Progress). p.claimed) (c.give_up.ensures.others b other) ∙ c.loop-block.invariant.none b (omega (arith, lt, other))
      ];
    }

pub returns-clause-idle : goal.returns-clause-idle
returns-clause-idle g c =
    let now = plant_of c.loop-block.parts in
    let led = c.loop-block.invariant.led 0 in
    let graph : length now.graph.blocks ≡ length (arc_value c.args.parts.now.graph).blocks = ap (λ (p : PlantState g.row.B.Denot). length p.graph.blocks) led.worked.same in
    let count : length now.state.progress ≡ length now.graph.blocks = led.right.keeps.sound.progress_count ∙ length-map now.graph.blocks (node_of g.B.Block.meaning) in
    let all : length (arc_value c.args.parts.now.graph).blocks ≤ c.loop-block.block = omega (arith, c.loop-block-test.false, c.len-block-end.ensures.blocks, ap (λ (x : Flowgraph g.row.B.Denot). length x.blocks) c.deref-2.ensures) in
    idle_from now.state (λ b lt. c.loop-block.invariant.none b (omega (arith, lt, count, graph, all)))

pub give_up-requires-clause-right : goal.give_up-requires-clause-right
give_up-requires-clause-right g c = (c.loop-block.invariant.led 0).right

pub give_up-requires-clause-block : goal.give_up-requires-clause-block
give_up-requires-clause-block g c =
    let now = plant_of c.loop-block.parts in
    let graph : length now.graph.blocks ≡ length (arc_value c.args.parts.now.graph).blocks = ap (λ (p : PlantState g.row.B.Denot). length p.graph.blocks) (c.loop-block.invariant.led 0).worked.same in
    omega (arith, graph, c.loop-block-test.true, c.len-block-end.ensures.blocks, ap (λ (x : Flowgraph g.row.B.Denot). length x.blocks) c.deref-2.ensures)
