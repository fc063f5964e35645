use Rattle.std.proofs.Common.{◌-◌, ◌^◌, arith, w32}
use Rattle.lane_kernels.specs.Blocks.{IsWithin}
use Rattle.lane_kernels.proofs.Scaled.{shift, raise, narrow, narrow_lanes, narrow_lane, scaled_lanes, tops_32}
use Rattle.lane_kernels.proofs.scaling.scaled.Goals as goal

pub returns : goal.returns
returns c =
    let last = c.min-last.result in
    let first = c.args.shift - last in
    scaled_lanes w32 tops_32 c.args.least c.args.greatest c.ranges.least c.ranges.greatest c.requires.ordered c.args.shift (IsWithin (2 ^ 30))
    (λ u. shift w32 (raise w32 (shift w32 u first) last) last) (narrow_lane w32 c.args.shift (2 ^ 30) last c.min-last.ensures (omega arith))
    16 (narrow w32 first last 16) (narrow_lanes w32 first last 16) c.args.products c.requires.whole c.requires.small
