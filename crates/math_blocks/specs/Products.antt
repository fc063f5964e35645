-- Products of several numbers, one number after the other.
use Rattle.std.proofs.Common.{◌≡◌, ℕ, zero, suc, ℤ, pos, negsuc, ◌*ℤ◌, List, [], ◌∷◌, ◌++◌, arith, ap, sym, ◌∙◌}
use Rattle.std.proofs.Math.IntN.{neg_ℤ, neg_ℤ-neg_ℤ, *ℤ-zero, *ℤ-negsuc, *ℤ_comm}
use Rattle.std.proofs.lemmas.Int.{ints}
use Rattle.kind_model.specs.Math.{product}
use Rattle.stream_model.specs.Numbers.{wrap}
use Rattle.math_blocks.specs.Joined.{AreJoined, itself, fold_joined, product_of, product_of_two}
use Rattle.math_blocks.specs.Wrapping.{wrap-mul_left, wrap_own}

times_one : (z : ℤ) → z *ℤ pos 1 ≡ z
times_one z = grind (arith, ints)

one_times : (z : ℤ) → z *ℤ pos 1 ≡ pos 1 *ℤ z
one_times z = grind (arith, ints)

-- the sign of a factor is that of the product
times_neg : (x y : ℤ) → x *ℤ neg_ℤ y ≡ neg_ℤ (x *ℤ y)
times_neg x (pos zero) = *ℤ-zero x ∙ sym (ap neg_ℤ (*ℤ-zero x))
times_neg x (pos (suc n)) = *ℤ-negsuc x n
times_neg x (negsuc n) = sym (neg_ℤ-neg_ℤ (x *ℤ pos (suc n))) ∙ ap neg_ℤ (sym (*ℤ-negsuc x n))

neg_times : (x y : ℤ) → neg_ℤ x *ℤ y ≡ neg_ℤ (x *ℤ y)
neg_times x y = *ℤ_comm (neg_ℤ x) y ∙ times_neg y x ∙ ap neg_ℤ (*ℤ_comm y x)

-- factors may be grouped either way: where that holds of a number, it holds of its negative
regrouped_pos : (a b c : ℕ) → pos a *ℤ (pos b *ℤ pos c) ≡ pos a *ℤ pos b *ℤ pos c
regrouped_pos a b c = ap pos (grind arith)

regrouped_last : (a b : ℕ) (z : ℤ) → pos a *ℤ (pos b *ℤ z) ≡ pos a *ℤ pos b *ℤ z
regrouped_last a b (pos c) = regrouped_pos a b c
regrouped_last a b (negsuc c) =
    ap (λ y. pos a *ℤ y) (times_neg (pos b) (pos (suc c))) ∙ times_neg (pos a) (pos b *ℤ pos (suc c)) ∙ ap neg_ℤ
    (regrouped_pos a b (suc c))
    ∙ sym (times_neg (pos a *ℤ pos b) (pos (suc c)))

regrouped_middle : (a : ℕ) (y z : ℤ) → pos a *ℤ (y *ℤ z) ≡ pos a *ℤ y *ℤ z
regrouped_middle a (pos b) z = regrouped_last a b z
regrouped_middle a (negsuc b) z =
    ap (λ y. pos a *ℤ y) (neg_times (pos (suc b)) z) ∙ times_neg (pos a) (pos (suc b) *ℤ z) ∙ ap neg_ℤ
    (regrouped_last a (suc b) z)
    ∙ sym (neg_times (pos a *ℤ pos (suc b)) z) ∙ ap (λ y. y *ℤ z) (sym (times_neg (pos a) (pos (suc b))))

regrouped : (x y z : ℤ) → x *ℤ (y *ℤ z) ≡ x *ℤ y *ℤ z
regrouped (pos a) y z = regrouped_middle a y z
regrouped (negsuc a) y z =
    neg_times (pos (suc a)) (y *ℤ z) ∙ ap neg_ℤ (regrouped_middle (suc a) y z) ∙ sym (neg_times (pos (suc a) *ℤ y) z)
    ∙ ap (λ x. x *ℤ z) (sym (neg_times (pos (suc a)) y))

-- the product of a list with one more at its end
product-push : (zs : List ℤ) (z : ℤ) → product (zs ++ z ∷ []) ≡ product zs *ℤ z
product-push [] z = one_times z
product-push (x ∷ zs) z = ap (λ y. x *ℤ y) (product-push zs z) ∙ regrouped x (product zs) z

pub products_joined : AreJoined product_of itself product_of_two
products_joined =
    fold_joined product_of product_of_two
    record {
      alone = λ t z are. ap (wrap t) (times_one z) ∙ wrap_own t z are;
      one_more = λ t zs z. ap (wrap t) (product-push zs z) ∙ sym (wrap-mul_left t (product zs) z);
    }
