use Rattle.std.proofs.Common.{◌≡◌, ◌^◌, ◌∙◌, length, arith, pos}
use Rattle.std.proofs.lemmas.Int.{ints}
use Rattle.lane_filters.proofs.Signed.{total_asks, total_is}
use Rattle.lane_filters.proofs.sums.lane_total.Goals as goal

pub overflow_add-result : goal.overflow_add-result
overflow_add-result c =
    let long : length c.args.sums ≡ 8 = omega arith in
    total_asks (2 ^ 58) c.args.sums (pos 0) c.requires (omega arith)

pub returns : goal.returns
returns c =
    let long : length c.args.sums ≡ 8 = omega arith in
    total_is (2 ^ 58) c.args.sums (pos 0) c.requires (omega arith) ∙ omega (arith, ints)
