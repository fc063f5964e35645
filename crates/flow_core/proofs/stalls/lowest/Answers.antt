use Rattle.std.proofs.Common.{arith}
use Rattle.flow_core.proofs.Rings.{low_goes_on}
use Rattle.flow_core.proofs.stalls.lowest.Goals as goal

pub loop-turn-preserved : goal.loop-turn-preserved
loop-turn-preserved g c = (
  omega (arith, c.min-lowest.ensures),
  c.next-block.ensures.inside,
  omega (arith, c.min-lowest.ensures, c.loop-turn.invariant.2),
  low_goes_on (g.P.StalledPlant.seen c.args.plant.now) _ _ c.loop-turn._turn c.graph.ensures c.len-turn-end.ensures.nodes c.loop-turn-test.true c.loop-turn.block.0 c.next-block.result.0 c.next-block.ensures.value
      c.loop-turn.lowest _ _ c.loop-turn.invariant.0 c.min-lowest.ensures c.loop-turn.invariant.3,
)
