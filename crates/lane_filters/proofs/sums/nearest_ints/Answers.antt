use Rattle.std.proofs.Common.{◌≡◌, ◌^◌, length, arith, pos, negsuc, w32, w64}
use Rattle.stream_model.specs.Numbers.{sat}
use Rattle.stream_model.specs.declared.vocabulary.ItemType.TheVariants.{Int}
use Rattle.lane_filters.proofs.Signed.{lanes_fit, nearer}
use Rattle.lane_filters.proofs.Capped.{int_is, int_sat, wider_32, capped_asks, compared_64, lanes_are}
use Rattle.lane_filters.proofs.sums.nearest_ints.Goals as goal

pub overflow_cast-result : goal.overflow_cast-result
overflow_cast-result c =
    let xs = c.args.numbers in
    let long : length xs ≡ 8 = omega arith in
    capped_asks w64 compared_64 Int w32 (negsuc 2147483647) (pos 2147483647) int_is int_sat
    (λ z. wider_32 (sat Int z) (int_sat z)) (record { sfits = omega arith }) (record { sfits = omega arith }) xs long
    (lanes_fit xs (nearer (2 ^ 61) (2 ^ 62) xs (omega arith) c.requires))

pub returns : goal.returns
returns c =
    let xs = c.args.numbers in
    let long : length xs ≡ 8 = omega arith in
    lanes_are w64 compared_64 Int w32 (negsuc 2147483647) (pos 2147483647) int_is int_sat
    (λ z. wider_32 (sat Int z) (int_sat z)) (record { sfits = omega arith }) (record { sfits = omega arith }) xs long
    (lanes_fit xs (nearer (2 ^ 61) (2 ^ 62) xs (omega arith) c.requires))
