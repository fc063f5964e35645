use Rattle.std.proofs.Common.{◌≡◌, length}
use Rattle.slices.specs.Order.{AreWithin}
use Rattle.slices.proofs.order.begin.Given as goal

abbrev pub invariant-loop-block : goal.invariant-loop-block
invariant-loop-block g l = (length l.waits ≡ length l.graph.blocks) × AreWithin (length l.graph.blocks) l.order.items
