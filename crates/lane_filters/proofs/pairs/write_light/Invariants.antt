use Rattle.std.proofs.Common.{◌≡◌, ◌+◌, ◌*◌, map, w32}
use mir.Val.{to_z}
use Rattle.lane_filters.specs.Words.{spread_sums}
use Rattle.lane_filters.proofs.pairs.write_light.Given as goal

abbrev pub invariant-loop-pair : goal.invariant-loop-pair
invariant-loop-pair l =
    (map (to_z w32) l.even ≡ spread_sums l.h l.x (2 * l.pair) l.at)
    × (map (to_z w32) l.odd ≡ spread_sums l.h l.x (2 * l.pair) (l.at + 1))
    × (map (to_z w32) l.next_even ≡ spread_sums l.h l.x (2 * l.pair) (l.at + 16))
    × (map (to_z w32) l.next_odd ≡ spread_sums l.h l.x (2 * l.pair) (l.at + 16 + 1))
