use Rattle.std.proofs.Common.{◌*◌, ◌%◌, ◌^◌, ◌*ℤ◌, refl}
use Rattle.stream_model.specs.Numbers.{wrap}
use Rattle.stream_model.specs.declared.vocabulary.ItemType.TheVariants.{Byte}
use Rattle.lane_kernels.proofs.ByteLanes.{byte_zip}
use Rattle.lane_kernels.proofs.bytes.U8SimdLane.mul_items_block.Goals as goal

pub returns : goal.returns
returns c =
    byte_zip c.args.out.now c.args.a.now c.requires.out_block c.requires.a_block (λ x y. (x * y) % 2 ^ 8) (λ x y. wrap Byte (x *ℤ y)) (λ x y p q. refl) c.args.b.now c.requires.b_block
