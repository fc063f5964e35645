use Rattle.std.proofs.Common.{◌≡◌, ◌^◌, length, arith, pos, negsuc, w16, w64}
use Rattle.stream_model.specs.Numbers.{sat}
use Rattle.stream_model.specs.declared.vocabulary.ItemType.TheVariants.{Short}
use Rattle.lane_filters.proofs.Signed.{lanes_fit, nearer}
use Rattle.lane_filters.proofs.Capped.{short_is, short_sat, wider_16, capped_asks, compared_64, lanes_are}
use Rattle.lane_filters.proofs.sums.nearest_shorts.Goals as goal

pub overflow_cast-result : goal.overflow_cast-result
overflow_cast-result c =
    let xs = c.args.numbers in
    let long : length xs ≡ 8 = omega arith in
    capped_asks w64 compared_64 Short w16 (negsuc 32767) (pos 32767) short_is short_sat (λ z. wider_16 (sat Short z) (short_sat z)) (record { sfits = omega arith }) (record { sfits = omega arith }) xs long
    (lanes_fit xs (nearer (2 ^ 61) (2 ^ 62) xs (omega arith) c.requires))

pub returns : goal.returns
returns c =
    let xs = c.args.numbers in
    let long : length xs ≡ 8 = omega arith in
    lanes_are w64 compared_64 Short w16 (negsuc 32767) (pos 32767) short_is short_sat (λ z. wider_16 (sat Short z) (short_sat z)) (record { sfits = omega arith }) (record { sfits = omega arith }) xs long
    (lanes_fit xs (nearer (2 ^ 61) (2 ^ 62) xs (omega arith) c.requires))
