use Rattle.std.proofs.Common.{◌*◌, ◌%◌, ◌^◌, ◌*ℤ◌, w32}
use Rattle.stream_model.specs.Numbers.{wrap}
use Rattle.stream_model.specs.declared.vocabulary.ItemType.TheVariants.{Int}
use Rattle.lane_kernels.proofs.SignedLanes.{signed_zip}
use Rattle.lane_kernels.proofs.Wrapped.{int_lanes, multiplied}
use Rattle.lane_kernels.proofs.ints.I32SimdLane.mul_items_block.Goals as goal

pub returns : goal.returns
returns c =
    signed_zip 8 w32 Int c.args.out.now c.args.a.now c.requires.out_block c.requires.a_block (λ x y. (x * y) % 2 ^ 32) (λ x y. wrap Int (x *ℤ y))
    (λ x y p q. multiplied w32 Int int_lanes x y (int_lanes.fits x p) (int_lanes.fits y q)) c.args.b.now c.requires.b_block
