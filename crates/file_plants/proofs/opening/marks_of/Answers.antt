use Rattle.std.proofs.Common.{arith}
use Rattle.file_plants.proofs.Feeding.{marks_more}
use Rattle.file_plants.proofs.opening.marks_of.Goals as goal

pub loop-mark-preserved : goal.loop-mark-preserved
loop-mark-preserved c = (
  rw c.push_reserved.ensures.items (marks_more _ _ _ _ c.mark-item.result _ c.loop-mark-test.true c.mark-item.is c.placed.ensures c.loop-mark.invariant.0),
  omega (arith, c.push_reserved.ensures.len, c.loop-mark.invariant.1),
  omega (arith, c.push_reserved.ensures.capacity, c.loop-mark.invariant.2),
)
