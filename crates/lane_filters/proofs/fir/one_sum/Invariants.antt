use Rattle.std.proofs.Common.{◌≡◌, ◌≤◌, ◌*◌, ◌^◌, map}
use Rattle.std.specs.Int.RustNames.{unsigned_abs}
use Rattle.lane_filters.specs.Words.{tap_sum}
use Rattle.lane_filters.proofs.fir.one_sum.Given as goal

abbrev pub invariant-loop-j : goal.invariant-loop-j
invariant-loop-j g l = (l.sum ≡ tap_sum l.h (map g.T.Number.number l.x) l.j l.at) × (unsigned_abs l.sum ≤ l.j * 2 ^ 46)
