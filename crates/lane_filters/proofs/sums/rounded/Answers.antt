use Rattle.std.proofs.Common.{◌≤◌, ◌^◌, arith, w64, ◌+ℤ◌}
use Rattle.std.specs.Int.RustNames.{unsigned_abs}
use lib.Signed.{shr_z, mag_shr}
use mir.Val.{SFits}
use Rattle.std.proofs.lemmas.Int.{to_z-of_z}
use Rattle.lane_filters.proofs.Rounded.{rnd_is, half_near}
use Rattle.lane_filters.proofs.Signed.{fits_near, abs_add}
use Rattle.lane_filters.proofs.sums.rounded.Goals as goal

pub returns : goal.returns
returns c =
    let z = c.args.sum in
    let half = c.half_of.result in
    let near : unsigned_abs half ≤ 2 ^ 60 = half_near c.args.shift half c.requires.shift c.half_of.ensures in
    let sum : SFits w64 (z +ℤ half) = fits_near (z +ℤ half) (omega (arith, abs_add z half, c.requires.sum, near)) in
    let quotient : SFits w64 (shr_z (z +ℤ half) (2 ^ c.args.shift)) = record { sfits = omega (arith, mag_shr (z +ℤ half) (2 ^ c.args.shift), sum) } in
    rw (to_z-of_z w64 z c.ranges.sum, to_z-of_z w64 half (record { sfits = c.half_of.type_inv }), to_z-of_z w64 (z +ℤ half) sum, to_z-of_z w64 (shr_z (z +ℤ half) (2 ^ c.args.shift)) quotient)
    (rnd_is c.args.shift half z c.half_of.ensures)
