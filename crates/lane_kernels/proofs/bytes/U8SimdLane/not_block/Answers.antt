use Rattle.std.proofs.Common.{◌-◌}
use Rattle.kind_model.specs.Kernels.{turned}
use Rattle.stream_model.specs.declared.vocabulary.ItemType.TheVariants.{Byte}
use Rattle.lane_kernels.proofs.ByteLanes.{byte_map}
use Rattle.lane_kernels.proofs.Wrapped.{turned_byte}
use Rattle.lane_kernels.proofs.bytes.U8SimdLane.not_block.Goals as goal

pub returns : goal.returns
returns c = byte_map c.args.out.now c.args.a.now c.requires.out_block c.requires.a_block (λ x. 255 - x) (turned Byte) turned_byte
