use Rattle.std.proofs.Common.{◌+◌, ◌%◌, ◌^◌, ◌+ℤ◌, w16, of_z}
use Rattle.stream_model.specs.Numbers.{wrap}
use Rattle.stream_model.specs.declared.vocabulary.ItemType.TheVariants.{Short}
use Rattle.lane_kernels.proofs.SignedLanes.{signed_splat}
use Rattle.lane_kernels.proofs.Wrapped.{short_lanes, added}
use Rattle.lane_kernels.proofs.shorts.I16SimdLane.add_const_block.Goals as goal

pub returns : goal.returns
returns c =
    signed_splat 16 w16 Short c.args.out.now c.args.a.now c.requires.out_block c.requires.a_block (λ x y. (x + y) % 2 ^ 16) (of_z w16 c.args.c) (λ x. wrap Short (x +ℤ c.args.c))
    (λ x p. added w16 Short short_lanes x c.args.c (short_lanes.fits x p) c.ranges.c)
