-- Lanes that are divided by a power of two.
use Rattle.std.proofs.Common.{◌≡◌, ℕ, zero, suc, ◌+◌, ◌/◌, ◌≤◌, ◌^◌, List, [], ◌∷◌, map, replicate, length, refl, ap, subst, sym, ◌∙◌, arith, w64, ℤ, pos, negsuc, ◌+ℤ◌}
use lib.Lanes.{zip2, Each1, Each2}
use lib.Signed.{shr_z, mag_shr}
use mir.Syntax.{shr, add, signed}
use mir.Val.{SFits, to_z, of_z}
use borrow.Table.Row.{s_int}
use borrow.Rule.Simd.Lanes.{act2, Asks2}
use Rattle.std.proofs.lemmas.Int.{to_z-of_z}
use Rattle.stream_model.specs.Numbers.{rnd}
use Rattle.numbers.proofs.Rounding.{shifted_at_once}
use Rattle.std.specs.Int.RustNames.{unsigned_abs}
use Rattle.std.proofs.Math.Pow.{pow_mono}
use Rattle.std.proofs.lemmas.List.{length-map}
use Rattle.std.proofs.lemmas.Simd.{Each1-replicate, zip2_splat}
use Rattle.lane_filters.specs.Words.{AreWithin}
use Rattle.lane_filters.proofs.Signed.{back, lanes_fit, nearer, add_asks, add_is, sums_fit, sums_within}

pub shr_is : (s n : ℕ) (xs : List ℤ) → length xs ≡ n → Each1 (SFits w64) xs
    → zip2 (act2 (shr signed) (s_int w64) (s_int w64) (s_int w64)) (map (of_z w64) xs) (replicate n s) ≡ map (of_z w64) (map (λ z. shr_z z (2 ^ s)) xs)
shr_is s n [] e h = refl
shr_is s zero (x ∷ xs) e h = absurd (omega arith)
shr_is s (suc n) (x ∷ xs) e h = rw (to_z-of_z w64 x h.0, shr_is s n xs (omega arith) h.1)

pub shr_fits : (m : ℕ) (xs : List ℤ) → Each1 (SFits w64) xs → Each1 (SFits w64) (map (λ z. shr_z z m) xs)
shr_fits m [] h = tt
shr_fits m (x ∷ xs) h = (record { sfits = omega (arith, mag_shr x m, h.0) }, shr_fits m xs h.1)

pub rnd_is : (s : ℕ) (half z : ℤ) → half ≡ pos (2 ^ s / 2) → shr_z (z +ℤ half) (2 ^ s) ≡ rnd z s
rnd_is s half z e = rw e (shifted_at_once z s (2 ^ s / 2) refl)

pub rnds_are : (s : ℕ) (half : ℤ) → half ≡ pos (2 ^ s / 2) → (xs : List ℤ)
    → map (λ z. shr_z z (2 ^ s)) (map (λ z. z +ℤ half) xs) ≡ map (λ z. rnd z s) xs
rnds_are s half e [] = refl
rnds_are s half e (x ∷ xs) = rw (rnd_is s half x e, rnds_are s half e xs)

pub half_near : (s : ℕ) (half : ℤ) → s ≤ 31 → half ≡ pos (2 ^ s / 2) → unsigned_abs half ≤ 2 ^ 60
half_near s half le e = rw e (let p : 2 ^ s ≤ 2 ^ 60 = pow_mono {j = 60} (omega arith) in omega arith)

abs_shr : (z : ℤ) (m : ℕ) → unsigned_abs (shr_z z m) ≤ unsigned_abs z
abs_shr (pos n) m = mag_shr (pos n) m
abs_shr (negsuc n) m = let h : n / m ≤ n = mag_shr (negsuc n) m in omega arith

pub shr_within : (k m : ℕ) (xs : List ℤ) → AreWithin k xs → AreWithin k (map (λ z. shr_z z m) xs)
shr_within k m [] h = tt
shr_within k m (x ∷ xs) h = (omega (arith, abs_shr x m, h.0), shr_within k m xs h.1)

module _ (s : ℕ) (half : ℤ) (xs : List ℤ) (le : s ≤ 31) (is : half ≡ pos (2 ^ s / 2)) (long : length xs ≡ 8) (near : AreWithin (2 ^ 60) xs) where
  halves : AreWithin (2 ^ 60) (replicate 8 half)
  halves = Each1-replicate (λ z. unsigned_abs z ≤ 2 ^ 60) 8 half (half_near s half le is)

  fit : Each1 (SFits w64) xs
  fit = lanes_fit xs (nearer (2 ^ 60) (2 ^ 62) xs (omega arith) near)

  halves_fit : Each1 (SFits w64) (replicate 8 half)
  halves_fit = lanes_fit (replicate 8 half) (nearer (2 ^ 60) (2 ^ 62) (replicate 8 half) (omega arith) halves)

  pub round_asks : Each2 (Asks2 (add signed) (s_int w64) (s_int w64)) (map (of_z w64) xs) (map (of_z w64) (replicate 8 half))
  round_asks = add_asks w64 xs (replicate 8 half) fit halves_fit (sums_fit xs (replicate 8 half) near halves)

  sums_are : zip2 (λ x y. x +ℤ y) xs (replicate 8 half) ≡ map (λ z. z +ℤ half) xs
  sums_are = zip2_splat (λ x y. x +ℤ y) xs 8 half long

  sums_near : AreWithin (2 ^ 61) (map (λ z. z +ℤ half) xs)
  sums_near =
      let both = sums_within (2 ^ 60) (2 ^ 60) xs (replicate 8 half) near halves in
      let wide = nearer (2 ^ 60 + 2 ^ 60) (2 ^ 61) (zip2 (λ x y. x +ℤ y) xs (replicate 8 half)) (omega arith) both in
      subst (AreWithin (2 ^ 61)) sums_are wide

  sums_fit_64 : Each1 (SFits w64) (map (λ z. z +ℤ half) xs)
  sums_fit_64 = lanes_fit (map (λ z. z +ℤ half) xs) (nearer (2 ^ 61) (2 ^ 62) (map (λ z. z +ℤ half) xs) (omega arith) sums_near)

  rnd_within : AreWithin (2 ^ 61) (map (λ z. rnd z s) xs)
  rnd_within = subst (AreWithin (2 ^ 61)) (rnds_are s half is xs) (shr_within (2 ^ 61) (2 ^ s) (map (λ z. z +ℤ half) xs) sums_near)

  pub round_is : map (to_z w64)
      (zip2 (act2 (shr signed) (s_int w64) (s_int w64) (s_int w64))
      (zip2 (act2 (add signed) (s_int w64) (s_int w64) (s_int w64)) (map (of_z w64) xs) (map (of_z w64) (replicate 8 half))) (replicate 8 s))
      ≡ map (λ z. rnd z s) xs
  round_is =
      let added = add_is w64 xs (replicate 8 half) fit halves_fit ∙ ap (map (of_z w64)) sums_are in
      ap (λ ns. map (to_z w64) (zip2 (act2 (shr signed) (s_int w64) (s_int w64) (s_int w64)) ns (replicate 8 s))) added
      ∙ ap (map (to_z w64)) (shr_is s 8 (map (λ z. z +ℤ half) xs) (length-map xs (λ z. z +ℤ half) ∙ long) sums_fit_64)
      ∙ back w64 _ (shr_fits (2 ^ s) (map (λ z. z +ℤ half) xs) sums_fit_64)
      ∙ rnds_are s half is xs

  pub round_within : AreWithin (2 ^ 61)
      (map (to_z w64)
      (zip2 (act2 (shr signed) (s_int w64) (s_int w64) (s_int w64))
      (zip2 (act2 (add signed) (s_int w64) (s_int w64) (s_int w64)) (map (of_z w64) xs) (map (of_z w64) (replicate 8 half))) (replicate 8 s)))
  round_within = subst (AreWithin (2 ^ 61)) (sym round_is) rnd_within
