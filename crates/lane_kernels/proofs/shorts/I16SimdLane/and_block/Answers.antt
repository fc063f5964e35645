use Rattle.std.proofs.Common.{w16}
use Rattle.std.specs.Prelude.{bit_and}
use Rattle.stream_model.specs.declared.vocabulary.ItemType.TheVariants.{Short}
use Rattle.kind_model.specs.Kernels.{bits_joined}
use Rattle.lane_kernels.proofs.SignedLanes.{signed_zip}
use Rattle.lane_kernels.proofs.Wrapped.{short_lanes, joined_bits, and_keeps}
use Rattle.lane_kernels.proofs.shorts.I16SimdLane.and_block.Goals as goal

pub returns : goal.returns
returns c =
    signed_zip 16 w16 Short c.args.out.now c.args.a.now c.requires.out_block c.requires.a_block bit_and (bits_joined bit_and Short)
    (λ x y p q. joined_bits w16 Short short_lanes bit_and (and_keeps 16) x y (short_lanes.fits x p) (short_lanes.fits y q)) c.args.b.now c.requires.b_block
