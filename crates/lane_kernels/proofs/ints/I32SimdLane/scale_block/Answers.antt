use Rattle.std.proofs.Common.{◌^◌, ◌∙◌, ap, arith, ℤ, of_z, to_z, w16, w32, w64, map, take}
use Rattle.std.specs.Simd.Lanes.{put_chunk}
use Rattle.std.proofs.lemmas.List.{take_all}
use Rattle.std.proofs.lemmas.List.Elements.{All-same}
use Rattle.std.proofs.lemmas.Simd.{map-map}
use Rattle.stream_model.specs.Numbers.{IsItem}
use Rattle.std.proofs.lemmas.Int.{to_z-of_z}
use Rattle.stream_model.specs.declared.vocabulary.ItemType.TheVariants.{Int}
use Rattle.numbers.proofs.Widths.{int_in_64}
use Rattle.lane_kernels.proofs.Lanes.{map_of_bits}
use Rattle.lane_kernels.proofs.Products.{products_whole, products_small, numbers_scaled, scaled_whole, scaled_items, restored, int_wide, cast_signed_asks, signed_back}
use Rattle.lane_kernels.proofs.Wrapped.{int_lanes}
use Rattle.lane_kernels.proofs.ints.I32SimdLane.scale_block.Goals as goal

pub overflow_cast-products : goal.overflow_cast-products
overflow_cast-products c =
    cast_signed_asks w32 w64 Int int_lanes.fits int_in_64 (take 4 c.args.a.now)
    (All-same (IsItem Int) (take 4 c.args.a.now) c.args.a.now (take_all 4 c.args.a.now (omega (arith, c.requires.a_block.whole))) c.requires.a_block.items)

pub scaled_wide-requires-clause-whole : goal.scaled_wide-requires-clause-whole
scaled_wide-requires-clause-whole c =
    products_whole 4 Int w64 (λ (z : ℤ). z) (λ z. of_z w64 (to_z w32 (of_z w32 z))) (2 ^ 31) int_wide c.args.factor c.from-factors.result c.ranges.factor (c.from-factors.ensures ∙ to_z-of_z w16 c.args.factor c.ranges.factor)
    _ c.args.a.now (map-map (λ u. of_z w64 (to_z w32 u)) (of_z w32) (take 4 c.args.a.now)) c.requires.a_block

pub scaled_wide-requires-clause-small : goal.scaled_wide-requires-clause-small
scaled_wide-requires-clause-small c =
    products_small 4 Int w64 (λ (z : ℤ). z) (λ z. of_z w64 (to_z w32 (of_z w32 z))) (2 ^ 31) int_wide c.args.factor c.from-factors.result c.ranges.factor (c.from-factors.ensures ∙ to_z-of_z w16 c.args.factor c.ranges.factor)
    _ c.args.a.now (map-map (λ u. of_z w64 (to_z w32 u)) (of_z w32) (take 4 c.args.a.now)) c.requires.a_block

pub overflow_cast-out : goal.overflow_cast-out
overflow_cast-out c =
    cast_signed_asks w64 w32 Int int_in_64 int_lanes.fits c.scaled_wide.result (scaled_items 4 Int w64 (λ (z : ℤ). z) (λ z. of_z w64 (to_z w32 (of_z w32 z))) (2 ^ 31) int_wide c.args.factor c.from-factors.result c.ranges.factor (c.from-factors.ensures ∙ to_z-of_z w16 c.args.factor c.ranges.factor)
    _ c.args.a.now (map-map (λ u. of_z w64 (to_z w32 u)) (of_z w32) (take 4 c.args.a.now)) c.requires.a_block c.args.shift c.scaled_wide.result c.scaled_wide.ensures)

pub returns : goal.returns
returns c =
    ap (λ ys. map (λ (z : ℤ). z) (put_chunk 0 c.args.out.now ys)) (map_of_bits (of_z w64) (to_z w32) (λ u. of_z w32 (to_z w64 u)) c.scaled_wide.result)
    ∙ restored (λ (z : ℤ). z) (λ z. to_z w32 (of_z w32 (to_z w64 (of_z w64 z)))) Int (signed_back w64 w32 Int int_in_64 int_lanes.fits) 4 c.args.out.now c.requires.out_block c.scaled_wide.result
    (scaled_whole 4 Int w64 (λ (z : ℤ). z) (λ z. of_z w64 (to_z w32 (of_z w32 z))) (2 ^ 31) int_wide c.args.factor c.from-factors.result c.ranges.factor (c.from-factors.ensures ∙ to_z-of_z w16 c.args.factor c.ranges.factor)
    _ c.args.a.now (map-map (λ u. of_z w64 (to_z w32 u)) (of_z w32) (take 4 c.args.a.now)) c.requires.a_block c.args.shift c.scaled_wide.result c.scaled_wide.ensures)
    (scaled_items 4 Int w64 (λ (z : ℤ). z) (λ z. of_z w64 (to_z w32 (of_z w32 z))) (2 ^ 31) int_wide c.args.factor c.from-factors.result c.ranges.factor (c.from-factors.ensures ∙ to_z-of_z w16 c.args.factor c.ranges.factor)
    _ c.args.a.now (map-map (λ u. of_z w64 (to_z w32 u)) (of_z w32) (take 4 c.args.a.now)) c.requires.a_block c.args.shift c.scaled_wide.result c.scaled_wide.ensures)
    ∙ numbers_scaled 4 Int w64 (λ (z : ℤ). z) (λ z. of_z w64 (to_z w32 (of_z w32 z))) (2 ^ 31) int_wide c.args.factor c.from-factors.result c.ranges.factor (c.from-factors.ensures ∙ to_z-of_z w16 c.args.factor c.ranges.factor)
    _ c.args.a.now (map-map (λ u. of_z w64 (to_z w32 u)) (of_z w32) (take 4 c.args.a.now)) c.requires.a_block c.args.shift c.scaled_wide.result c.scaled_wide.ensures
