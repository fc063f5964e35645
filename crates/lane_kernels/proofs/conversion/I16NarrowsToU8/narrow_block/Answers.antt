use Rattle.std.proofs.Common.{arith, ℤ, pos, map, take, replicate, of_z, to_z, w16, unsigned_abs, bit_and}
use Rattle.std.specs.Simd.Lanes.{zip2}
use Rattle.stream_model.specs.Numbers.{IsItem, wrap}
use Rattle.stream_model.specs.declared.vocabulary.ItemType.TheVariants.{Byte, Short}
use Rattle.lane_kernels.proofs.Converted.{byte_asks, short_to_byte}
use Rattle.lane_kernels.proofs.Lanes.{stored_map, splat_of_bits}
use Rattle.lane_kernels.proofs.conversion.I16NarrowsToU8.narrow_block.Goals as goal

pub overflow_cast-out : goal.overflow_cast-out
overflow_cast-out c =
    byte_asks w16 (omega arith) 16 (map (of_z w16) (take 16 c.args.a.now))

pub returns : goal.returns
returns c =
    stored_map (λ (z : ℤ). z) pos (IsItem Short) 16 c.args.out.now c.requires.out_block (λ xs. map (λ u. unsigned_abs (to_z w16 u)) (zip2 bit_and (map (of_z w16) xs) (replicate 16 255)))
    (λ z. unsigned_abs (to_z w16 (bit_and (of_z w16 z) 255))) (wrap Byte) (splat_of_bits (of_z w16) (λ u. unsigned_abs (to_z w16 u)) bit_and 255 16) short_to_byte
    c.args.a.now c.requires.a_block.whole c.requires.a_block.items
