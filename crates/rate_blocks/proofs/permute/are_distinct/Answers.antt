use Rattle.std.proofs.Common.{pos, w64, FitsSigned, get_or, take, rules, refl, subst, sym}
use Rattle.std.specs.List.{Contains}
use Rattle.std.proofs.lemmas.Int.{to_z-of_z}
use Rattle.rate_blocks.proofs.Reordered.{stands_twice, differs_more}
use Rattle.rate_blocks.proofs.permute.are_distinct.Goals as goal

pub returns-then-is_among : goal.returns-then-is_among
returns-then-is_among c =
    let xs = c.args.numbers.now in
    let k = c.loop-k.k in
    let fits : FitsSigned w64 (get_or xs k (pos 0)) = search rules in
    let there = subst (λ x. Contains (take k xs) x) (to_z-of_z w64 (get_or xs k (pos 0)) fits) (c.if-is_among.ensures.0 refl) in
    (λ e. (cc), λ apart. absurd (stands_twice xs k (pos 0) c.loop-k-test.true there apart))

pub loop-k-preserved : goal.loop-k-preserved
loop-k-preserved c =
    let xs = c.args.numbers.now in
    let k = c.loop-k.k in
    let fits : FitsSigned w64 (get_or xs k (pos 0)) = search rules in
    differs_more xs k (pos 0) c.loop-k-test.true
    (λ there. let e = c.if-is_among.ensures.1 (subst (λ x. Contains (take k xs) x) (sym (to_z-of_z w64 (get_or xs k (pos 0)) fits)) there) in (cc)) c.loop-k.invariant
