use Rattle.std.proofs.Common.{◌≡◌, length, arith, pos, negsuc, w16, w32}
use Rattle.stream_model.specs.Numbers.{sat}
use Rattle.stream_model.specs.declared.vocabulary.ItemType.TheVariants.{Short}
use Rattle.lane_filters.proofs.Capped.{short_is, short_sat, wider_short, capped_asks, compared_32, lanes_are}
use Rattle.lane_filters.proofs.RoundedInts.{ints_fit}
use Rattle.lane_filters.proofs.sums.capped_shorts.Goals as goal

pub overflow_cast-result : goal.overflow_cast-result
overflow_cast-result c =
    let xs = c.args.numbers in
    let long : length xs ≡ 8 = omega arith in
    capped_asks w32 compared_32 Short w16 (negsuc 32767) (pos 32767) short_is short_sat (λ z. wider_short (sat Short z) (short_sat z)) (record { sfits = omega arith }) (record { sfits = omega arith })
    xs long (ints_fit xs c.requires)

pub returns : goal.returns
returns c =
    let xs = c.args.numbers in
    let long : length xs ≡ 8 = omega arith in
    lanes_are w32 compared_32 Short w16 (negsuc 32767) (pos 32767) short_is short_sat (λ z. wider_short (sat Short z) (short_sat z)) (record { sfits = omega arith }) (record { sfits = omega arith })
    xs long (ints_fit xs c.requires)
