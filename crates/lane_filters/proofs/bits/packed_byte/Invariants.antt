use Rattle.std.proofs.Common.{◌≡◌, ◌<◌, ◌^◌}
use Rattle.lane_filters.specs.Words.{first_bits}
use Rattle.lane_filters.proofs.bits.packed_byte.Given as goal

abbrev pub invariant-loop-j : goal.invariant-loop-j
invariant-loop-j l = (l.byte ≡ first_bits l.items l.j) × (l.byte < 2 ^ l.j)
