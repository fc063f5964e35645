use Rattle.std.proofs.Common.{◌≡◌, ◌+◌, map, w64}
use mir.Val.{to_z}
use Rattle.lane_filters.specs.Words.{spread_sums}
use Rattle.lane_filters.proofs.ints.write_ints.Given as goal

abbrev pub invariant-loop-j : goal.invariant-loop-j
invariant-loop-j l =
    (map (to_z w64) l.even ≡ spread_sums l.h l.x l.j l.at)
    × (map (to_z w64) l.odd ≡ spread_sums l.h l.x l.j (l.at + 1))
    × (map (to_z w64) l.next_even ≡ spread_sums l.h l.x l.j (l.at + 16))
    × (map (to_z w64) l.next_odd ≡ spread_sums l.h l.x l.j (l.at + 16 + 1))
