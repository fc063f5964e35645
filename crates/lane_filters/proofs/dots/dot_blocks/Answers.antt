use Rattle.std.proofs.Common.{◌≡◌, ◌+◌, ◌*◌, ◌/◌, ◌<◌, ◌≤◌, ◌^◌, ◌∙◌, ap, refl, length, map, arith, w64, pos}
use mir.Val.{to_z}
use Rattle.std.specs.Int.RustNames.{unsigned_abs}
use Rattle.std.proofs.lemmas.Int.{to_z-of_z}
use Rattle.std.proofs.lemmas.Simd.{Each1-replicate}
use Rattle.stream_model.specs.Lists.{sum_below}
use Rattle.stream_model.specs.Numbers.{total}
use Rattle.lane_filters.specs.Words.{tap_product}
use Rattle.lane_filters.proofs.Signed.{back, lanes_fit, nearer, total_near}
use Rattle.lane_filters.proofs.Blocks.{dots_more, taps_in_range}
use Rattle.lane_filters.proofs.dots.dot_blocks.Goals as goal

pub loop-block-init : goal.loop-block-init
loop-block-init g c = (refl, Each1-replicate (λ z. unsigned_abs z ≤ 0) 8 (pos 0) (omega arith), refl)

pub products-requires-clause-taps : goal.products-requires-clause-taps
products-requires-clause-taps g c = taps_in_range c.args.h.now (8 * c.loop-block.block) c.requires.taps

pub added-sums-requires-clause-left : goal.added-sums-requires-clause-left
added-sums-requires-clause-left g c =
    let few : c.loop-block.block < 32 = omega arith in
    nearer (c.loop-block.block * 2 ^ 46) (2 ^ 60) (map (to_z w64) c.loop-block.sums) (omega arith) c.loop-block.invariant.1

pub added-sums-requires-clause-right : goal.added-sums-requires-clause-right
added-sums-requires-clause-right g c =
    let ps = c.products.result in
    let near = c.products.ensures.within in
    rw (back w64 ps (lanes_fit ps (nearer (2 ^ 46) (2 ^ 62) ps (omega arith) near))) (nearer (2 ^ 46) (2 ^ 60) ps (omega arith) near)

pub lane_total-requires : goal.lane_total-requires
lane_total-requires g c =
    let few : c.loop-block.block ≤ 32 = omega arith in
    nearer (c.loop-block.block * 2 ^ 46) (2 ^ 58) (map (to_z w64) c.loop-block.sums) (omega arith) c.loop-block.invariant.1

pub loop-block-preserved : goal.loop-block-preserved
loop-block-preserved g c =
    let b = c.loop-block.block in
    let hs = c.args.h.now in
    let xs = c.args.x.now in
    let e : 8 * b + 8 ≡ 8 * (b + 1) = omega arith in
    let r = dots_more g.T.Number.number hs xs (8 * b) b (omega arith) (omega arith) (omega arith) c.requires.taps
    (map (to_z w64) c.loop-block.sums) c.products.result c.added-sums.result c.loop-block.invariant.0 c.loop-block.invariant.1 c.loop-block.invariant.2
    c.products.ensures.value c.products.ensures.within c.added-sums.ensures in
    (r.0 ∙ ap (λ n. sum_below n (tap_product hs (map g.T.Number.number xs))) e, r.1, r.2)

pub returns-clause-within : goal.returns-clause-within
returns-clause-within g c =
    let lanes = map (to_z w64) c.loop-block.sums in
    let e : c.loop-block.block ≡ length c.args.h.now / 8 = omega arith in
    let l : length lanes ≡ 8 = c.loop-block.invariant.2 in
    let t : unsigned_abs (total lanes) ≤ c.loop-block.block * 2 ^ 46 * 8 = rw l at (total_near (c.loop-block.block * 2 ^ 46) lanes c.loop-block.invariant.1) in
    let b = to_z-of_z w64 c.lane_total.result (record { sfits = c.lane_total.type_inv }) in
    rw (b, c.lane_total.ensures) (let n = t in omega arith)
