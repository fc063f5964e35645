-- Lanes of 32 bits that are divided by a power of two.
use Rattle.std.proofs.Common.{◌≡◌, ℕ, zero, suc, ◌+◌, ◌-◌, ◌/◌, ◌≤◌, ◌^◌, List, [], ◌∷◌, map, replicate, length, refl, ap, subst, sym, ◌∙◌, arith, w32, ℤ, pos, ◌+ℤ◌}
use lib.Lanes.{zip2, Each1, Each2}
use lib.Signed.{shr_z, mag_shr}
use mir.Syntax.{shr, add, signed}
use mir.Val.{SFits, to_z, of_z}
use borrow.Table.Row.{s_int}
use borrow.Rule.Simd.Lanes.{act2, Asks2}
use Rattle.std.proofs.lemmas.Int.{to_z-of_z, fits_signed_from_abs}
use Rattle.stream_model.specs.Numbers.{rnd}
use Rattle.std.specs.Int.RustNames.{unsigned_abs}
use Rattle.std.proofs.Math.Pow.{pow_mono}
use Rattle.std.proofs.lemmas.List.{length-map}
use Rattle.std.proofs.lemmas.Simd.{Each1-replicate, Each1-weaker, zip2_splat}
use Rattle.lane_filters.specs.Words.{AreWithin}
use Rattle.lane_filters.proofs.Signed.{back, nearer, add_asks, add_is, sums_within}
use Rattle.lane_filters.proofs.Rounded.{rnds_are, shr_within}

int_fits : (z : ℤ) → unsigned_abs z ≤ 2 ^ 31 - 1 → SFits w32 z
int_fits z h = fits_signed_from_abs w32 z (omega arith)

pub ints_fit : (xs : List ℤ) → AreWithin (2 ^ 31 - 1) xs → Each1 (SFits w32) xs
ints_fit xs h = Each1-weaker (λ z. unsigned_abs z ≤ 2 ^ 31 - 1) (SFits w32) int_fits xs h

-- the same of numbers that were bits in between
pub ints_again : (xs : List ℤ) → AreWithin (2 ^ 31 - 1) xs → AreWithin (2 ^ 31 - 1) (map (to_z w32) (map (of_z w32) xs))
ints_again xs h = rw (back w32 xs (ints_fit xs h)) h

added_fit : (xs ys : List ℤ) → AreWithin (2 ^ 31 - 1) (zip2 (λ x y. x +ℤ y) xs ys) → Each2 (λ x y. SFits w32 (x +ℤ y)) xs ys
added_fit [] ys h = tt
added_fit (x ∷ xs) [] h = tt
added_fit (x ∷ xs) (y ∷ ys) h = (int_fits (x +ℤ y) h.0, added_fit xs ys h.1)

shr_is : (s n : ℕ) (xs : List ℤ) → length xs ≡ n → Each1 (SFits w32) xs
    → zip2 (act2 (shr signed) (s_int w32) (s_int w32) (s_int w32)) (map (of_z w32) xs) (replicate n s) ≡ map (of_z w32) (map (λ z. shr_z z (2 ^ s)) xs)
shr_is s n [] e h = refl
shr_is s zero (x ∷ xs) e h = absurd (omega arith)
shr_is s (suc n) (x ∷ xs) e h = rw (to_z-of_z w32 x h.0, shr_is s n xs (omega arith) h.1)

shr_fits : (m : ℕ) (xs : List ℤ) → Each1 (SFits w32) xs → Each1 (SFits w32) (map (λ z. shr_z z m) xs)
shr_fits m [] h = tt
shr_fits m (x ∷ xs) h = (record { sfits = omega (arith, mag_shr x m, h.0) }, shr_fits m xs h.1)

half_near : (s : ℕ) (half : ℤ) → s ≤ 15 → half ≡ pos (2 ^ s / 2) → unsigned_abs half ≤ 2 ^ 14
half_near s half le e = rw e (let p : 2 ^ s ≤ 2 ^ 15 = pow_mono {j = 15} (omega arith) in omega arith)

module _ (s : ℕ) (half : ℤ) (xs : List ℤ) (le : s ≤ 15) (is : half ≡ pos (2 ^ s / 2)) (long : length xs ≡ 8) (near : AreWithin (2 ^ 31 - 2 ^ 15) xs) where
  halves : AreWithin (2 ^ 14) (replicate 8 half)
  halves = Each1-replicate (λ z. unsigned_abs z ≤ 2 ^ 14) 8 half (half_near s half le is)

  fit : Each1 (SFits w32) xs
  fit = ints_fit xs (nearer (2 ^ 31 - 2 ^ 15) (2 ^ 31 - 1) xs (omega arith) near)

  halves_fit : Each1 (SFits w32) (replicate 8 half)
  halves_fit = ints_fit (replicate 8 half) (nearer (2 ^ 14) (2 ^ 31 - 1) (replicate 8 half) (omega arith) halves)

  zipped_near : AreWithin (2 ^ 31 - 1) (zip2 (λ x y. x +ℤ y) xs (replicate 8 half))
  zipped_near =
      nearer (2 ^ 31 - 2 ^ 15 + 2 ^ 14) (2 ^ 31 - 1) (zip2 (λ x y. x +ℤ y) xs (replicate 8 half)) (omega arith)
      (sums_within (2 ^ 31 - 2 ^ 15) (2 ^ 14) xs (replicate 8 half) near halves)

  pub round_asks : Each2 (Asks2 (add signed) (s_int w32) (s_int w32)) (map (of_z w32) xs) (map (of_z w32) (replicate 8 half))
  round_asks = add_asks w32 xs (replicate 8 half) fit halves_fit (added_fit xs (replicate 8 half) zipped_near)

  sums_are : zip2 (λ x y. x +ℤ y) xs (replicate 8 half) ≡ map (λ z. z +ℤ half) xs
  sums_are = zip2_splat (λ x y. x +ℤ y) xs 8 half long

  sums_near : AreWithin (2 ^ 31 - 1) (map (λ z. z +ℤ half) xs)
  sums_near = subst (AreWithin (2 ^ 31 - 1)) sums_are zipped_near

  sums_fit : Each1 (SFits w32) (map (λ z. z +ℤ half) xs)
  sums_fit = ints_fit (map (λ z. z +ℤ half) xs) sums_near

  rnd_within : AreWithin (2 ^ 31 - 1) (map (λ z. rnd z s) xs)
  rnd_within = subst (AreWithin (2 ^ 31 - 1)) (rnds_are s half is xs) (shr_within (2 ^ 31 - 1) (2 ^ s) (map (λ z. z +ℤ half) xs) sums_near)

  pub round_is : map (to_z w32)
      (zip2 (act2 (shr signed) (s_int w32) (s_int w32) (s_int w32))
      (zip2 (act2 (add signed) (s_int w32) (s_int w32) (s_int w32)) (map (of_z w32) xs) (map (of_z w32) (replicate 8 half))) (replicate 8 s))
      ≡ map (λ z. rnd z s) xs
  round_is =
      let added = add_is w32 xs (replicate 8 half) fit halves_fit ∙ ap (map (of_z w32)) sums_are in
      ap (λ ns. map (to_z w32) (zip2 (act2 (shr signed) (s_int w32) (s_int w32) (s_int w32)) ns (replicate 8 s))) added
      ∙ ap (map (to_z w32)) (shr_is s 8 (map (λ z. z +ℤ half) xs) (length-map xs (λ z. z +ℤ half) ∙ long) sums_fit)
      ∙ back w32 _ (shr_fits (2 ^ s) (map (λ z. z +ℤ half) xs) sums_fit)
      ∙ rnds_are s half is xs

  pub round_within : AreWithin (2 ^ 31 - 1)
      (map (to_z w32)
      (zip2 (act2 (shr signed) (s_int w32) (s_int w32) (s_int w32))
      (zip2 (act2 (add signed) (s_int w32) (s_int w32) (s_int w32)) (map (of_z w32) xs) (map (of_z w32) (replicate 8 half))) (replicate 8 s)))
  round_within = subst (AreWithin (2 ^ 31 - 1)) (sym round_is) rnd_within
