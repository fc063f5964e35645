use Rattle.std.specs.Prelude.{bit_or}
use Rattle.stream_model.specs.declared.vocabulary.ItemType.TheVariants.{Byte}
use Rattle.kind_model.specs.Kernels.{bits_joined}
use Rattle.lane_kernels.proofs.ByteLanes.{byte_zip}
use Rattle.lane_kernels.proofs.Wrapped.{joined_bytes, or_keeps}
use Rattle.lane_kernels.proofs.bytes.U8SimdLane.or_block.Goals as goal

pub returns : goal.returns
returns c =
    byte_zip c.args.out.now c.args.a.now c.requires.out_block c.requires.a_block bit_or (bits_joined bit_or Byte) (joined_bytes bit_or (or_keeps 8)) c.args.b.now c.requires.b_block
