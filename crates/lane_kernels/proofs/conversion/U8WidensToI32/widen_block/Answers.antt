use Rattle.std.proofs.Common.{ℤ, pos, map, to_z, w32}
use Rattle.std.proofs.lemmas.Simd.{map-map}
use Rattle.stream_model.specs.Numbers.{IsItem, wrap}
use Rattle.stream_model.specs.declared.vocabulary.ItemType.TheVariants.{Byte, Int}
use Rattle.lane_kernels.proofs.Converted.{byte_to_int}
use Rattle.lane_kernels.proofs.Lanes.{stored_map}
use Rattle.lane_kernels.proofs.conversion.U8WidensToI32.widen_block.Goals as goal

pub returns : goal.returns
returns c =
    stored_map pos (λ (z : ℤ). z) (λ x. IsItem Byte (pos x)) 8 c.args.out.now c.requires.out_block (λ xs. map (to_z w32) (map (λ u. u) xs)) (to_z w32) (wrap Int)
    (λ xs e. map-map (to_z w32) (λ u. u) xs) byte_to_int c.args.a.now c.requires.a_block.whole c.requires.a_block.items
