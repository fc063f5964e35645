use Rattle.std.proofs.Common.{◌^◌, ◌∙◌, ap, arith, ℤ, of_z, to_z, w16, w32, map, take}
use Rattle.std.specs.Simd.Lanes.{put_chunk}
use Rattle.std.proofs.lemmas.List.{take_all}
use Rattle.std.proofs.lemmas.List.Elements.{All-same}
use Rattle.std.proofs.lemmas.Simd.{map-map}
use Rattle.stream_model.specs.Numbers.{IsItem}
use Rattle.std.proofs.lemmas.Int.{to_z-of_z}
use Rattle.stream_model.specs.declared.vocabulary.ItemType.TheVariants.{Short}
use Rattle.numbers.proofs.Widths.{short_in_32}
use Rattle.lane_kernels.proofs.Lanes.{map_of_bits}
use Rattle.lane_kernels.proofs.Products.{products_whole, products_small, numbers_scaled, scaled_whole, scaled_items, restored, short_wide, cast_signed_asks, signed_back}
use Rattle.lane_kernels.proofs.Wrapped.{short_lanes}
use Rattle.lane_kernels.proofs.shorts.I16SimdLane.scale_block.Goals as goal

pub overflow_cast-products : goal.overflow_cast-products
overflow_cast-products c =
    cast_signed_asks w16 w32 Short short_lanes.fits short_in_32 (take 16 c.args.a.now)
    (All-same (IsItem Short) (take 16 c.args.a.now) c.args.a.now (take_all 16 c.args.a.now (omega (arith, c.requires.a_block.whole))) c.requires.a_block.items)

pub scaled-requires-clause-whole : goal.scaled-requires-clause-whole
scaled-requires-clause-whole c =
    products_whole 16 Short w32 (λ (z : ℤ). z) (λ z. of_z w32 (to_z w16 (of_z w16 z))) (2 ^ 15) short_wide c.args.factor c.from-factors.result c.ranges.factor (c.from-factors.ensures ∙ to_z-of_z w16 c.args.factor c.ranges.factor)
    _ c.args.a.now (map-map (λ u. of_z w32 (to_z w16 u)) (of_z w16) (take 16 c.args.a.now)) c.requires.a_block

pub scaled-requires-clause-small : goal.scaled-requires-clause-small
scaled-requires-clause-small c =
    products_small 16 Short w32 (λ (z : ℤ). z) (λ z. of_z w32 (to_z w16 (of_z w16 z))) (2 ^ 15) short_wide c.args.factor c.from-factors.result c.ranges.factor (c.from-factors.ensures ∙ to_z-of_z w16 c.args.factor c.ranges.factor)
    _ c.args.a.now (map-map (λ u. of_z w32 (to_z w16 u)) (of_z w16) (take 16 c.args.a.now)) c.requires.a_block

pub overflow_cast-out : goal.overflow_cast-out
overflow_cast-out c =
    cast_signed_asks w32 w16 Short short_in_32 short_lanes.fits c.scaled.result (scaled_items 16 Short w32 (λ (z : ℤ). z) (λ z. of_z w32 (to_z w16 (of_z w16 z))) (2 ^ 15) short_wide c.args.factor c.from-factors.result c.ranges.factor (c.from-factors.ensures ∙ to_z-of_z w16 c.args.factor c.ranges.factor)
    _ c.args.a.now (map-map (λ u. of_z w32 (to_z w16 u)) (of_z w16) (take 16 c.args.a.now)) c.requires.a_block c.args.shift c.scaled.result c.scaled.ensures)

pub returns : goal.returns
returns c =
    ap (λ ys. map (λ (z : ℤ). z) (put_chunk 0 c.args.out.now ys)) (map_of_bits (of_z w32) (to_z w16) (λ u. of_z w16 (to_z w32 u)) c.scaled.result)
    ∙ restored (λ (z : ℤ). z) (λ z. to_z w16 (of_z w16 (to_z w32 (of_z w32 z)))) Short (signed_back w32 w16 Short short_in_32 short_lanes.fits) 16 c.args.out.now c.requires.out_block c.scaled.result
    (scaled_whole 16 Short w32 (λ (z : ℤ). z) (λ z. of_z w32 (to_z w16 (of_z w16 z))) (2 ^ 15) short_wide c.args.factor c.from-factors.result c.ranges.factor (c.from-factors.ensures ∙ to_z-of_z w16 c.args.factor c.ranges.factor)
    _ c.args.a.now (map-map (λ u. of_z w32 (to_z w16 u)) (of_z w16) (take 16 c.args.a.now)) c.requires.a_block c.args.shift c.scaled.result c.scaled.ensures)
    (scaled_items 16 Short w32 (λ (z : ℤ). z) (λ z. of_z w32 (to_z w16 (of_z w16 z))) (2 ^ 15) short_wide c.args.factor c.from-factors.result c.ranges.factor (c.from-factors.ensures ∙ to_z-of_z w16 c.args.factor c.ranges.factor)
    _ c.args.a.now (map-map (λ u. of_z w32 (to_z w16 u)) (of_z w16) (take 16 c.args.a.now)) c.requires.a_block c.args.shift c.scaled.result c.scaled.ensures)
    ∙ numbers_scaled 16 Short w32 (λ (z : ℤ). z) (λ z. of_z w32 (to_z w16 (of_z w16 z))) (2 ^ 15) short_wide c.args.factor c.from-factors.result c.ranges.factor (c.from-factors.ensures ∙ to_z-of_z w16 c.args.factor c.ranges.factor)
    _ c.args.a.now (map-map (λ u. of_z w32 (to_z w16 u)) (of_z w16) (take 16 c.args.a.now)) c.requires.a_block c.args.shift c.scaled.result c.scaled.ensures
