use Rattle.std.proofs.Common.{◌≡◌, length, arith}
use Rattle.lane_filters.proofs.SplitTaps.{joined_are, joined_near, timed_near, times_asks, widen_asks, widened_near}
use Rattle.lane_filters.proofs.halves.joined.Goals as goal

pub overflow_mul-high : goal.overflow_mul-high
overflow_mul-high c = times_asks c.args.high c.requires.high

pub overflow_cast-low : goal.overflow_cast-low
overflow_cast-low c = widen_asks c.args.low c.requires.low

pub added-requires-clause-left : goal.added-requires-clause-left
added-requires-clause-left c = timed_near c.args.high c.requires.high

pub added-requires-clause-right : goal.added-requires-clause-right
added-requires-clause-right c = widened_near c.args.low c.requires.low

pub returns-clause-value : goal.returns-clause-value
returns-clause-value c =
    let long : length c.args.high ≡ 8 = omega arith in
    joined_are c.args.high c.args.low c.requires.high c.requires.low c.added.result c.added.ensures long

pub returns-clause-within : goal.returns-clause-within
returns-clause-within c = joined_near c.args.high c.args.low c.requires.high c.requires.low c.added.result c.added.ensures
