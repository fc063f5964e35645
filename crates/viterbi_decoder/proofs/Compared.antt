-- Sums, and numbers that stand for no path, are compared as the paths are.
use Rattle.std.proofs.Common.{◌≡◌, ◌≤◌, ◌/◌, ℕ, suc, ℤ, pos, negsuc, ◌+ℤ◌, ◌≤ℤ◌, List, [], ◌∷◌, Bool, true, false, Option, None, Some, int_lt, to_z, of_z, w64, refl, ap, sym, subst, ◌∙◌, arith}
use Rattle.std.specs.Prelude.{if◌then◌else◌}
use Rattle.std.specs.Option.{option_map}
use Rattle.std.proofs.lemmas.Int.{ints, to_z-of_z}
use Rattle.kind_model.specs.Trellis.{Trellis, may_be, metric, cost, cheapest}
use Rattle.viterbi_decoder.specs.Found.{found, behind, far, sum_in, IsWithin, IsFar, IsNumber, IsSum}
use Rattle.viterbi_decoder.proofs.Cheapest.{joined, joined-picked}
use Rattle.viterbi_decoder.proofs.Costs.{within-more, some-same, apart}

far-more : (k : ℕ) (z y : ℤ) → IsFar k z → IsWithin 1 y → IsFar (suc k) (z +ℤ y)
far-more k z y h g = record {
  above = omega (arith, ints, h.above, g.above);
  below = omega
      (arith, ints, h.below, g.below);
}

within-number : (k : ℕ) (z : ℤ) → k ≤ 1024 → IsWithin k z → IsNumber z
within-number k z few h = record {
  above = omega (arith, ints, h.above, few);
  below = omega
      (arith, ints, h.below, few);
}

far-number : (k : ℕ) (z : ℤ) → k ≤ 1024 → IsFar k z → IsNumber z
far-number k z few h = record { above = omega (arith, ints, h.above, few); below = omega (arith, ints, h.below, few) }

-- passed in 64 bits each is the same
pub number-same : (z : ℤ) → IsNumber z → to_z w64 (of_z w64 z) ≡ z
number-same (pos n) h = to_z-of_z w64 (pos n) (record { sfits = omega (arith, ints, h.above, h.below) })
number-same (negsuc n) h = to_z-of_z w64 (negsuc n) (record { sfits = omega (arith, ints, h.above, h.below) })

pub sum-number : (m : Trellis) (x : List ℤ) (k : ℕ) (o : Option (List ℕ)) (z : ℤ) → k ≤ 1024 → IsSum m x k o z
    → IsNumber z
sum-number m x k None z few is = far-number k z few (is.none refl)
sum-number m x k (Some p) z few is = within-number k z few (is.within p refl)

pub sum-same : (m : Trellis) (x : List ℤ) (k : ℕ) (o : Option (List ℕ)) (z : ℤ) → k ≤ 1024 → IsSum m x k o z
    → to_z w64 (of_z w64 z) ≡ z
sum-same m x k o z few is = number-same z (sum-number m x k o z few is)

near-less : (k : ℕ) (z : ℤ) → k ≤ 1024 → IsWithin k z → int_lt z (pos 2305843009213693952) ≡ true
near-less k z few w = let below : z ≤ℤ pos 2199023255552 = omega (arith, ints, w.below, few) in grind (arith, ints)

far-not-less : (k : ℕ) (z : ℤ) → k ≤ 1024 → IsFar k z → int_lt z (pos 2305843009213693952) ≡ false
far-not-less k z few w = let above : pos 4611683819404132352 ≤ℤ z = omega (arith, ints, w.above, few) in grind
    (arith, ints)

-- what a path costs, read of its number
pub sum-path : (m : Trellis) (x : List ℤ) (k : ℕ) (o : Option (List ℕ)) (z : ℤ) → k ≤ 1024 → IsSum m x k o z → sum_in z
    ≡ option_map (cost m x 0 k) o
sum-path m x k None z few is = λ i. if far-not-less k z few (is.none refl) i then Some z else None
sum-path m x k (Some p) z few is = (λ i. if near-less k z few (is.within p refl) i then Some z else None) ∙ ap Some
    (is.is p refl)

near-first : (k : ℕ) (y z : ℤ) → k ≤ 1024 → IsWithin k y → IsFar k z → int_lt y z ≡ true
near-first k y z few w f =
    let below : y ≤ℤ pos 2199023255552 = omega (arith, ints, w.below, few) in
    let above : pos 4611683819404132352 ≤ℤ z = omega (arith, ints, f.above, few) in
    grind (arith, ints)

far-second : (k : ℕ) (y z : ℤ) → k ≤ 1024 → IsWithin k y → IsFar k z → int_lt z y ≡ false
far-second k y z few w f =
    let below : y ≤ℤ pos 2199023255552 = omega (arith, ints, w.below, few) in
    let above : pos 4611683819404132352 ≤ℤ z = omega (arith, ints, f.above, few) in
    grind (arith, ints)

neither : (t : Bool) → ◌≡◌ {A = Option (List ℕ)} None (if t then None else None)
neither true = refl
neither false = refl

-- of two paths, the one found later where its number is less
pub joined-by :
    (m : Trellis) (x : List ℤ) (k : ℕ) (a b : Option (List ℕ)) (sum other : ℤ) → k ≤ 1024 → IsSum m x k a sum
    → IsSum m x k b other →
    joined (cost m x 0 k) a b ≡ (if int_lt other sum then b else a)
joined-by m x k None None sum other few is by = neither (int_lt other sum)
joined-by m x k None (Some q) sum other few is by = sym (λ i. if near-first k other sum few (by.within q refl)
    (is.none refl) i then Some q else None)
joined-by m x k (Some p) None sum other few is by = sym (λ i. if far-second k sum other few (is.within p refl)
    (by.none refl) i then None else Some p)
joined-by m x k (Some p) (Some q) sum other few is by =
    joined-picked (cost m x 0 k) (Some p) (Some q) ∙ (λ i. if int_lt (sym (by.is q refl) i)
    (sym (is.is p refl) i) then Some q else Some p)

-- behind a path, a sum with one metric more
pub sum-behind :
    (m : Trellis) (x : List ℤ) (k r : ℕ) (z : ℤ) → IsSum m x k (found m x k (r / m.symbols)) z
    → IsWithin 1 (metric m x 0 k r) →
    IsSum m x (suc k) (behind m x k r) (z +ℤ metric m x 0 k r)
sum-behind m x k r z is near = more (found m x k (r / m.symbols)) is
  where
    more : (o : Option (List ℕ)) → IsSum m x k o z → IsSum m x (suc k) (option_map (λ path. r ∷ path) o)
        (z +ℤ metric m x 0 k r)
    more None is = record {
      is = λ p e. apart p e;
      within = λ p e. apart p e;
      none = λ e. far-more k z
          (metric m x 0 k r) (is.none refl) near;
    }
    more (Some q) is =
        record {
          is = λ p e. subst (λ path. z +ℤ metric m x 0 k r ≡ cost m x 0 (suc k) path) (some-same (r ∷ q) p e)
              (ap (λ n. n +ℤ metric m x 0 k r) (is.is q refl));
          within = λ p e. within-more k z (metric m x 0 k r) (is.within q refl) near;
          none = λ e. apart (r ∷ q) (sym e);
        }

-- no path
pub no-sum : (m : Trellis) (x : List ℤ) (k : ℕ) (z : ℤ) → z ≡ far → IsSum m x k None z
no-sum m x k z e = record {
  is = λ p h. apart p h;
  within = λ p h. apart p h;
  none = λ h. subst (IsFar k) (sym e)
      (record { above = omega (arith, ints); below = omega (arith, ints) });
}

-- a path without a step
pub first-sum : (m : Trellis) (x : List ℤ) (s : ℕ) (z : ℤ) → z ≡ (if may_be m.start s then pos 0 else far)
    → IsSum m x 0 (found m x 0 s) z
first-sum m x s z e = subst (IsSum m x 0 (found m x 0 s)) (sym e) (choose (may_be m.start s))
  where
    choose : (t : Bool) → IsSum m x 0 (cheapest (cost m x 0 0) (if t then [] ∷ [] else [])) (if t then pos 0 else far)
    choose true =
        record {
          is = λ p h. subst (λ path. pos 0 ≡ cost m x 0 0 path) (some-same [] p h) refl;
          within = λ p h. record { above = omega (arith, ints); below = omega (arith, ints) };
          none = λ h. apart [] (sym h);
        }
    choose false = no-sum m x 0 far refl
