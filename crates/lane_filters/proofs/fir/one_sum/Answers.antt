use Rattle.std.proofs.Common.{rules, ◌≡◌, ◌+◌, ◌-◌, ◌∙◌, ap, sym, map, length, get_or, arith, w16, w64, pos, ◌*ℤ◌}
use mir.Val.{SFits, to_z, of_z}
use Rattle.std.proofs.lemmas.Int.{to_z-of_z}
use Rattle.lane_filters.proofs.Taps.{read_number, sum_step}
use Rattle.lane_filters.proofs.fir.one_sum.Goals as goal

pub loop-j-preserved : goal.loop-j-preserved
loop-j-preserved g c =
    let h = c.args.h.now in
    let x = map g.T.Number.number c.args.x.now in
    let j = c.loop-j.j in
    let at = c.args.at in
    let tap = get_or h j (pos 0) in
    let fits : SFits w16 tap = search rules in
    let place : at + (length h - 1 - j) ≡ at + length h - 1 - j = omega arith in
    let read = read_number g.T.Number.number c.args.x.now (at + (length h - 1 - j)) c.index-x-at.result (omega arith) c.index-x-at.is in
    let product : to_z w16 (of_z w16 tap) *ℤ g.T.Number.number c.index-x-at.result ≡ tap *ℤ get_or x (at + length h - 1 - j) (pos 0) =
    ap (λ z. z *ℤ g.T.Number.number c.index-x-at.result) (to_z-of_z w16 tap fits) ∙ ap (λ z. tap *ℤ z) (sym read ∙ ap (λ i. get_or x i (pos 0)) place) in
    sum_step (λ i. get_or h i (pos 0) *ℤ get_or x (at + length h - 1 - i) (pos 0)) j (to_z w64 c.loop-j.sum-bits) c.with_product-sum.result (to_z w16 (of_z w16 tap))
    (g.T.Number.number c.index-x-at.result) c.loop-j.invariant.0 c.loop-j.invariant.1 c.with_product-sum.ensures.value product c.with_product-sum.ensures.within
    (record { sfits = c.with_product-sum.type_inv })
