use Rattle.std.proofs.Common.{rules, ◌≡◌, ◌∙◌, ap, sym, map, get_or, arith, w16, w64, pos, ◌*ℤ◌}
use mir.Val.{SFits, to_z, of_z}
use Rattle.std.proofs.lemmas.Int.{to_z-of_z}
use Rattle.lane_filters.specs.Words.{tap_product}
use Rattle.lane_filters.proofs.Taps.{read_number, sum_step}
use Rattle.lane_filters.proofs.dots.dot_lanes.Goals as goal

pub loop-n-preserved : goal.loop-n-preserved
loop-n-preserved g c =
    let h = c.args.h.now in
    let x = map g.T.Number.number c.args.x.now in
    let n = c.loop-n.n in
    let tap = get_or h n (pos 0) in
    let fits : SFits w16 tap = search rules in
    let read = read_number g.T.Number.number c.args.x.now n c.index-x-n.result (omega arith) c.index-x-n.is in
    let product : to_z w16 (of_z w16 tap) *ℤ g.T.Number.number c.index-x-n.result ≡ tap_product h x n =
    ap (λ z. z *ℤ g.T.Number.number c.index-x-n.result) (to_z-of_z w16 tap fits) ∙ ap (λ z. tap *ℤ z) (sym read) in
    sum_step (tap_product h x) n (to_z w64 c.loop-n.sum-bits) c.with_product-sum.result (to_z w16 (of_z w16 tap))
    (g.T.Number.number c.index-x-n.result) c.loop-n.invariant.0 c.loop-n.invariant.1 c.with_product-sum.ensures.value product c.with_product-sum.ensures.within
    (record { sfits = c.with_product-sum.type_inv })
