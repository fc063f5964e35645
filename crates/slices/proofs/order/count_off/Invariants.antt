use Rattle.std.proofs.Common.{◌≡◌, length}
use Rattle.slices.specs.Order.{AreWithin}
use Rattle.slices.proofs.order.count_off.Given as goal

abbrev pub invariant-loop-connection : goal.invariant-loop-connection
invariant-loop-connection g l = (length l.waits ≡ length l.graph.blocks) × AreWithin (length l.graph.blocks) l.order.items
