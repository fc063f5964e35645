use Rattle.std.proofs.Common.{◌^◌, ◌∙◌, ap, pos, of_z, to_z, w16, w32, refl, map, unsigned_abs}
use Rattle.std.specs.Simd.Lanes.{put_chunk}
use Rattle.std.proofs.lemmas.Simd.{map-map}
use Rattle.std.proofs.lemmas.Int.{to_z-of_z}
use Rattle.stream_model.specs.declared.vocabulary.ItemType.TheVariants.{Byte}
use Rattle.lane_kernels.proofs.Products.{products_whole, products_small, numbers_scaled, scaled_whole, scaled_items, restored, byte_wide, cast_byte_asks, byte_back}
use Rattle.lane_kernels.proofs.bytes.U8SimdLane.scale_block.Goals as goal

pub scaled-requires-clause-whole : goal.scaled-requires-clause-whole
scaled-requires-clause-whole c =
    products_whole 16 Byte w32 pos (λ x. x) (2 ^ 15) byte_wide c.args.factor c.from-factors.result c.ranges.factor (c.from-factors.ensures ∙ to_z-of_z w16 c.args.factor c.ranges.factor)
    _ c.args.a.now refl c.requires.a_block

pub scaled-requires-clause-small : goal.scaled-requires-clause-small
scaled-requires-clause-small c =
    products_small 16 Byte w32 pos (λ x. x) (2 ^ 15) byte_wide c.args.factor c.from-factors.result c.ranges.factor (c.from-factors.ensures ∙ to_z-of_z w16 c.args.factor c.ranges.factor)
    _ c.args.a.now refl c.requires.a_block

pub overflow_cast-out : goal.overflow_cast-out
overflow_cast-out c =
    cast_byte_asks c.scaled.result (scaled_items 16 Byte w32 pos (λ x. x) (2 ^ 15) byte_wide c.args.factor c.from-factors.result c.ranges.factor (c.from-factors.ensures ∙ to_z-of_z w16 c.args.factor c.ranges.factor)
    _ c.args.a.now refl c.requires.a_block c.args.shift c.scaled.result c.scaled.ensures)

pub returns : goal.returns
returns c =
    ap (λ ys. map pos (put_chunk 0 c.args.out.now ys)) (map-map (λ u. unsigned_abs (to_z w32 u)) (of_z w32) c.scaled.result)
    ∙ restored pos (λ z. unsigned_abs (to_z w32 (of_z w32 z))) Byte byte_back 16 c.args.out.now c.requires.out_block c.scaled.result
    (scaled_whole 16 Byte w32 pos (λ x. x) (2 ^ 15) byte_wide c.args.factor c.from-factors.result c.ranges.factor (c.from-factors.ensures ∙ to_z-of_z w16 c.args.factor c.ranges.factor)
    _ c.args.a.now refl c.requires.a_block c.args.shift c.scaled.result c.scaled.ensures)
    (scaled_items 16 Byte w32 pos (λ x. x) (2 ^ 15) byte_wide c.args.factor c.from-factors.result c.ranges.factor (c.from-factors.ensures ∙ to_z-of_z w16 c.args.factor c.ranges.factor)
    _ c.args.a.now refl c.requires.a_block c.args.shift c.scaled.result c.scaled.ensures)
    ∙ numbers_scaled 16 Byte w32 pos (λ x. x) (2 ^ 15) byte_wide c.args.factor c.from-factors.result c.ranges.factor (c.from-factors.ensures ∙ to_z-of_z w16 c.args.factor c.ranges.factor)
    _ c.args.a.now refl c.requires.a_block c.args.shift c.scaled.result c.scaled.ensures
