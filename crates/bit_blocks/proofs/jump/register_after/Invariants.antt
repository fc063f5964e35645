use Rattle.std.proofs.Common.{◌≡◌, ℕ, ◌*◌, ◌^◌, ◌<◌}
use Rattle.bit_blocks.specs.Jumps.{register_after, MakeSteps}
use Rattle.bit_blocks.proofs.Jumps.{IsOnTheWay}
use Rattle.bit_blocks.proofs.jump.register_after.Given as goal

abbrev pub invariant-loop-left : goal.invariant-loop-left
invariant-loop-left l = IsOnTheWay l.register.bits l.register.mask l.register.init l.steps l.word l.left l.columns

abbrev pub decreases-loop-left : goal.decreases-loop-left
decreases-loop-left l = l.left
