use Rattle.std.proofs.Common.{w16}
use Rattle.std.specs.Prelude.{bit_xor}
use Rattle.stream_model.specs.declared.vocabulary.ItemType.TheVariants.{Short}
use Rattle.kind_model.specs.Kernels.{bits_joined}
use Rattle.lane_kernels.proofs.SignedLanes.{signed_zip}
use Rattle.lane_kernels.proofs.Wrapped.{short_lanes, joined_bits, xor_keeps}
use Rattle.lane_kernels.proofs.shorts.I16SimdLane.xor_block.Goals as goal

pub returns : goal.returns
returns c =
    signed_zip 16 w16 Short c.args.out.now c.args.a.now c.requires.out_block c.requires.a_block bit_xor (bits_joined bit_xor Short)
    (λ x y p q. joined_bits w16 Short short_lanes bit_xor (xor_keeps 16) x y (short_lanes.fits x p) (short_lanes.fits y q)) c.args.b.now c.requires.b_block
