use Rattle.std.proofs.Common.{◌≡◌, length}
use Rattle.slices.specs.Order.{AreWithin}
use Rattle.slices.proofs.order.follow.Given as goal

abbrev pub invariant-loop-port : goal.invariant-loop-port
invariant-loop-port g l = (length l.waits ≡ length l.graph.blocks) × AreWithin (length l.graph.blocks) l.order.items
