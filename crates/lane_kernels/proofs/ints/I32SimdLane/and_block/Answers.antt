use Rattle.std.proofs.Common.{w32}
use Rattle.std.specs.Prelude.{bit_and}
use Rattle.stream_model.specs.declared.vocabulary.ItemType.TheVariants.{Int}
use Rattle.kind_model.specs.Kernels.{bits_joined}
use Rattle.lane_kernels.proofs.SignedLanes.{signed_zip}
use Rattle.lane_kernels.proofs.Wrapped.{int_lanes, joined_bits, and_keeps}
use Rattle.lane_kernels.proofs.ints.I32SimdLane.and_block.Goals as goal

pub returns : goal.returns
returns c =
    signed_zip 8 w32 Int c.args.out.now c.args.a.now c.requires.out_block c.requires.a_block bit_and (bits_joined bit_and Int)
    (λ x y p q. joined_bits w32 Int int_lanes bit_and (and_keeps 32) x y (int_lanes.fits x p) (int_lanes.fits y q)) c.args.b.now c.requires.b_block
