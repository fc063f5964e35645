use Rattle.std.specs.Prelude.{bit_xor}
use Rattle.stream_model.specs.declared.vocabulary.ItemType.TheVariants.{Byte}
use Rattle.kind_model.specs.Kernels.{bits_joined}
use Rattle.lane_kernels.proofs.ByteLanes.{byte_zip}
use Rattle.lane_kernels.proofs.Wrapped.{joined_bytes, xor_keeps}
use Rattle.lane_kernels.proofs.bytes.U8SimdLane.xor_block.Goals as goal

pub returns : goal.returns
returns c =
    byte_zip c.args.out.now c.args.a.now c.requires.out_block c.requires.a_block bit_xor (bits_joined bit_xor Byte) (joined_bytes bit_xor (xor_keeps 8)) c.args.b.now c.requires.b_block
