use Rattle.std.proofs.Common.{◌+◌, ◌%◌, ◌^◌, ◌+ℤ◌, w16}
use Rattle.stream_model.specs.Numbers.{wrap}
use Rattle.stream_model.specs.declared.vocabulary.ItemType.TheVariants.{Short}
use Rattle.lane_kernels.proofs.SignedLanes.{signed_zip}
use Rattle.lane_kernels.proofs.Wrapped.{short_lanes, added}
use Rattle.lane_kernels.proofs.shorts.I16SimdLane.add_block.Goals as goal

pub returns : goal.returns
returns c =
    signed_zip 16 w16 Short c.args.out.now c.args.a.now c.requires.out_block c.requires.a_block (λ x y. (x + y) % 2 ^ 16) (λ x y. wrap Short (x +ℤ y))
    (λ x y p q. added w16 Short short_lanes x y (short_lanes.fits x p) (short_lanes.fits y q)) c.args.b.now c.requires.b_block
