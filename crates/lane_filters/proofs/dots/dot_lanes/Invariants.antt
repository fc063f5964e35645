use Rattle.std.proofs.Common.{◌≡◌, ◌≤◌, ◌*◌, ◌^◌, map}
use Rattle.std.specs.Int.RustNames.{unsigned_abs}
use Rattle.stream_model.specs.Lists.{sum_below}
use Rattle.lane_filters.specs.Words.{tap_product}
use Rattle.lane_filters.proofs.dots.dot_lanes.Given as goal

abbrev pub invariant-loop-n : goal.invariant-loop-n
invariant-loop-n g l = (l.sum ≡ sum_below l.n (tap_product l.h (map g.T.Number.number l.x))) × (unsigned_abs l.sum ≤ l.n * 2 ^ 46)
