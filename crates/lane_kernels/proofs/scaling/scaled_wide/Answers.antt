use Rattle.std.proofs.Common.{◌≡◌, ◌*◌, ◌/◌, ◌%◌, ◌^◌, arith, w64}
use Rattle.lane_kernels.specs.Blocks.{IsWithin}
use Rattle.numbers.proofs.Rounding.{half_of}
use Rattle.lane_kernels.proofs.Scaled.{shift, raise, wide, wide_lanes, wide_lane, scaled_lanes, tops_64}
use Rattle.lane_kernels.proofs.scaling.scaled_wide.Goals as goal

pub returns : goal.returns
returns c =
    let s = c.args.shift in
    let half = 1 * 2 ^ s % 2 ^ 32 / 2 in
    let is_half : half ≡ 2 ^ s / 2 = half_of s c.requires.in_range in
    scaled_lanes w64 tops_64 c.args.least c.args.greatest c.ranges.least c.ranges.greatest c.requires.ordered s (IsWithin (2 ^ 46))
    (λ u. shift w64 (raise w64 u half) s) (wide_lane w64 s (2 ^ 46) half is_half (omega arith))
    4 (wide w64 half s 4) (wide_lanes w64 half s 4) c.args.wide c.requires.whole c.requires.small
