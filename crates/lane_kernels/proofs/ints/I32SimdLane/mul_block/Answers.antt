use Rattle.std.proofs.Common.{◌*◌, ◌%◌, ◌^◌, ◌*ℤ◌, w32, of_z}
use Rattle.stream_model.specs.Numbers.{wrap}
use Rattle.stream_model.specs.declared.vocabulary.ItemType.TheVariants.{Int}
use Rattle.lane_kernels.proofs.SignedLanes.{signed_splat}
use Rattle.lane_kernels.proofs.Wrapped.{int_lanes, multiplied}
use Rattle.lane_kernels.proofs.ints.I32SimdLane.mul_block.Goals as goal

pub returns : goal.returns
returns c =
    signed_splat 8 w32 Int c.args.out.now c.args.a.now c.requires.out_block c.requires.a_block (λ x y. (x * y) % 2 ^ 32) (of_z w32 c.args.c) (λ x. wrap Int (x *ℤ c.args.c))
    (λ x p. multiplied w32 Int int_lanes x c.args.c (int_lanes.fits x p) c.ranges.c)
