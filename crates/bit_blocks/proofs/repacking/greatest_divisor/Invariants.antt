use Rattle.std.proofs.Common.{◌≡◌, ◌≤◌}
use Rattle.kind_model.specs.BitStreams.{divisor_up_to, common_divisor}
use Rattle.bit_blocks.proofs.repacking.greatest_divisor.Given as goal

abbrev pub invariant-loop-divisor : goal.invariant-loop-divisor
invariant-loop-divisor l = (1 ≤ l.divisor) × (divisor_up_to l.a l.b l.divisor ≡ common_divisor l.a l.b)

abbrev pub decreases-loop-divisor : goal.decreases-loop-divisor
decreases-loop-divisor l = l.divisor
