use Rattle.std.proofs.Common.{◌≡◌, ◌≤◌, ◌∙◌, ap, sym, arith, w64, FitsSigned, rules, of_z, unsigned_abs}
use Rattle.std.proofs.lemmas.Int.{quot_is, fits_signed_from_abs}
use Rattle.std.specs.Int.RustNames.{int_div}
use Rattle.stream_model.specs.Numbers.{wrap}
use Rattle.lane_kernels.proofs.Quotients.{divided_is, quotient_within, item_within}
use Rattle.lane_kernels.proofs.dividing.QuotientOfTwo.of.Goals as goal

pub returns-else-divisor-eq0 : goal.returns-else-divisor-eq0
returns-else-divisor-eq0 g c =
    let number = g.T.Number.number in
    let t = g.T.Number.kind in
    let x = c.widen.result in
    let y = c.widen-divisor.result in
    let fits_x : FitsSigned w64 x = search rules in
    let fits_y : FitsSigned w64 y = search rules in
    let small : unsigned_abs (int_div x y) ≤ unsigned_abs x = quotient_within x y in
    let near : unsigned_abs (number c.args.x) ≤ 2147483648 = item_within t (number c.args.x) c.widen.ensures.in_range in
    let same : unsigned_abs x ≡ unsigned_abs (number c.args.x) = ap unsigned_abs c.widen.ensures.value in
    let fits : FitsSigned w64 (int_div x y) = fits_signed_from_abs w64 (int_div x y) (omega (arith, small, near, same)) in
    c.wrap.ensures ∙ ap (wrap t) (quot_is w64 x y fits_x fits_y fits)
    ∙ (λ i. wrap t (int_div (c.widen.ensures.value i) (c.widen-divisor.ensures.value i)))
    ∙ sym (divided_is t (number c.args.x) (number c.args.y) (λ zero. c.if-divisor-eq0.false (ap (of_z w64) (c.widen-divisor.ensures.value ∙ zero))))
