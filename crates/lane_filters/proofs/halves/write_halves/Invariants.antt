use Rattle.std.proofs.Common.{◌≡◌, ◌+◌, ◌*◌}
use Rattle.lane_filters.specs.Words.{spread_sums}
use Rattle.lane_filters.proofs.halves.write_halves.Given as goal

abbrev pub invariant-loop-pair : goal.invariant-loop-pair
invariant-loop-pair l =
    (l.highs.0 ≡ spread_sums l.high l.x (2 * l.pair) l.at)
    × (l.highs.1 ≡ spread_sums l.high l.x (2 * l.pair) (l.at + 1))
    × (l.lows.0 ≡ spread_sums l.low l.x (2 * l.pair) l.at)
    × (l.lows.1 ≡ spread_sums l.low l.x (2 * l.pair) (l.at + 1))
    × (l.next_highs.0 ≡ spread_sums l.high l.x (2 * l.pair) (l.at + 16))
    × (l.next_highs.1 ≡ spread_sums l.high l.x (2 * l.pair) (l.at + 16 + 1))
    × (l.next_lows.0 ≡ spread_sums l.low l.x (2 * l.pair) (l.at + 16))
    × (l.next_lows.1 ≡ spread_sums l.low l.x (2 * l.pair) (l.at + 16 + 1))
