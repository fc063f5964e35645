use Rattle.std.proofs.Common.{◌*◌, ◌%◌, ◌^◌, ◌*ℤ◌, pos, refl}
use Rattle.stream_model.specs.Numbers.{wrap}
use Rattle.stream_model.specs.declared.vocabulary.ItemType.TheVariants.{Byte}
use Rattle.lane_kernels.proofs.ByteLanes.{byte_splat}
use Rattle.lane_kernels.proofs.bytes.U8SimdLane.mul_block.Goals as goal

pub returns : goal.returns
returns c =
    byte_splat c.args.out.now c.args.a.now c.requires.out_block c.requires.a_block (λ x y. (x * y) % 2 ^ 8) c.args.c (λ x. wrap Byte (x *ℤ pos c.args.c)) (λ x p. refl)
