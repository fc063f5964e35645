use Rattle.std.proofs.Common.{◌≡◌, length, arith}
use Rattle.lane_filters.proofs.RoundedInts.{round_asks, round_is, round_within}
use Rattle.lane_filters.proofs.sums.rounded_ints.Goals as goal

pub overflow_add-result : goal.overflow_add-result
overflow_add-result c =
    let long : length c.args.sums ≡ 8 = omega arith in
    round_asks c.args.shift c.half_int-halves.result c.args.sums c.requires.shift c.half_int-halves.ensures long c.requires.sums

pub returns-clause-value : goal.returns-clause-value
returns-clause-value c =
    let long : length c.args.sums ≡ 8 = omega arith in
    rw c.int_of.ensures
    (round_is c.args.shift c.half_int-halves.result c.args.sums c.requires.shift c.half_int-halves.ensures long c.requires.sums)

pub returns-clause-within : goal.returns-clause-within
returns-clause-within c =
    let long : length c.args.sums ≡ 8 = omega arith in
    rw c.int_of.ensures
    (round_within c.args.shift c.half_int-halves.result c.args.sums c.requires.shift c.half_int-halves.ensures long c.requires.sums)
