use Rattle.std.proofs.Common.{◌≡◌, ◌∙◌, length, arith, w16}
use Rattle.std.proofs.lemmas.Int.{to_z-of_z}
use Rattle.lane_filters.proofs.IntLanes.{times_asks, times_are, times_within}
use Rattle.lane_filters.proofs.ints.times.Goals as goal

pub overflow_mul-result : goal.overflow_mul-result
overflow_mul-result c =
    let is = c.from.ensures ∙ to_z-of_z w16 c.args.tap c.ranges.tap in
    let long : length c.args.numbers ≡ 8 = omega arith in
    times_asks c.from.result c.args.tap c.args.numbers is c.ranges.tap long c.requires

pub returns-clause-value : goal.returns-clause-value
returns-clause-value c =
    let is = c.from.ensures ∙ to_z-of_z w16 c.args.tap c.ranges.tap in
    let long : length c.args.numbers ≡ 8 = omega arith in
    times_are c.from.result c.args.tap c.args.numbers is c.ranges.tap long c.requires

pub returns-clause-within : goal.returns-clause-within
returns-clause-within c =
    let is = c.from.ensures ∙ to_z-of_z w16 c.args.tap c.ranges.tap in
    let long : length c.args.numbers ≡ 8 = omega arith in
    times_within c.from.result c.args.tap c.args.numbers is c.ranges.tap long c.requires
