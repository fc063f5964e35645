use Rattle.std.proofs.Common.{◌≡◌, ℕ, ◌<◌, length}
use Rattle.stream_model.specs.Lists.{item}
use Rattle.lane_filters.specs.Words.{AreHalvesOf}
use Rattle.lane_filters.proofs.halves.Halves.of.Given as goal

abbrev pub invariant-loop-j : goal.invariant-loop-j
invariant-loop-j l =
    (length l.high ≡ 256)
    × (length l.low ≡ 256)
    × ((k : ℕ) → k < l.j → AreHalvesOf (item l.h k) (item l.high k) (item l.low k))
