use Rattle.std.proofs.Common.{◌≡◌, length}
use Rattle.slices.specs.Order.{AreWithin}
use Rattle.slices.proofs.order.place.Given as goal

abbrev pub invariant-loop-at : goal.invariant-loop-at
invariant-loop-at g l = (length l.waits ≡ length l.graph.blocks) × AreWithin (length l.graph.blocks) l.order.items
