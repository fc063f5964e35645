use Rattle.std.proofs.Common.{◌∙◌, sym}
use Rattle.flow_core.proofs.Rings.{full_here, full_nowhere, full_later}
use Rattle.flow_core.proofs.stalls.full.Goals as goal

pub returns-then-is_full-clause-value : goal.returns-then-is_full-clause-value
returns-then-is_full-clause-value g c =
    sym (full_here (g.P.StalledPlant.seen c.args.plant.now) _ _ c.loop-turn._turn c.graph.ensures c.len-turn-end.ensures.nodes c.loop-turn-test.true c.loop-turn.block.0 c.args.first.0 (sym c.is_full.ensures ∙ c.if-is_full.true))
    ∙ c.loop-turn.invariant.1

pub returns-then-block-first : goal.returns-then-block-first
returns-then-block-first g c =
    record {
      value = sym (full_nowhere (g.P.StalledPlant.seen c.args.plant.now) _ _ c.loop-turn._turn c.graph.ensures c.len-turn-end.ensures.nodes c.loop-turn-test.true c.loop-turn.block.0 c.next-block.result.0 c.next-block.ensures.value c.args.first.0
          (sym c.is_full.ensures ∙ c.if-is_full.false) c.if-block-first.true)
          ∙ c.loop-turn.invariant.1;
      inside = tt;
    }

pub loop-turn-preserved : goal.loop-turn-preserved
loop-turn-preserved g c = (
  c.next-block.ensures.inside,
  sym (full_later (g.P.StalledPlant.seen c.args.plant.now) _ _ c.loop-turn._turn c.graph.ensures c.len-turn-end.ensures.nodes c.loop-turn-test.true c.loop-turn.block.0 c.next-block.result.0 c.next-block.ensures.value c.args.first.0
      (sym c.is_full.ensures ∙ c.if-is_full.false) c.if-block-first.false)
      ∙ c.loop-turn.invariant.1,
)
