-- Lanes that are cast to lanes of another width.
use Rattle.std.proofs.Common.{◌≡◌, ℕ, zero, suc, ◌-◌, ◌*◌, ◌/◌, ◌%◌, ◌^◌, ◌<◌, ◌≤◌, ◌∙◌, Bool, true, false, ltb, ltb-true, ltb-false, ap, sym, refl, subst, arith, List, [], ◌∷◌, map, length, replicate, ℤ, pos, negsuc, of_z, to_z, SFits, Fits, T, w8, w16, w32, unsigned_abs, bit_and}
use Rattle.std.specs.Int.{Width, int_wrap}
use Rattle.std.specs.Int.Signed.{shr_z, non_neg}
use Rattle.std.specs.Simd.Lanes.{zip2, Each1}
use Rattle.std.proofs.lemmas.Int.{to_z-of_z, to_z_pos, int_wrap_fits, SFits-int_wrap}
use Rattle.std.proofs.lemmas.Nat.{and_mask, and_le_r}
use mir.Val.{bits, hbits}
use Rattle.stream_model.specs.Numbers.{IsItem, wrap, residue}
use Rattle.stream_model.specs.declared.vocabulary.ItemType.TheVariants.{Byte, Short, Int}
use Rattle.numbers.proofs.Widths.{byte_below, short_in_32}
use Rattle.lane_kernels.proofs.Products.{signed_back}
use Rattle.lane_kernels.proofs.Wrapped.{short_lanes, int_lanes, centred_short, read}

-- ---- to wider lanes

pub byte_to_short : (x : ℕ) → IsItem Byte (pos x) → to_z w16 x ≡ wrap Short (pos x)
byte_to_short x p = read w16 Short short_lanes x (omega (arith, byte_below x p))

pub byte_to_int : (x : ℕ) → IsItem Byte (pos x) → to_z w32 x ≡ wrap Int (pos x)
byte_to_int x p = read w32 Int int_lanes x (omega (arith, byte_below x p))

pub short_to_int : (z : ℤ) → IsItem Short z → to_z w32 (of_z w32 (to_z w16 (of_z w16 z))) ≡ wrap Int z
short_to_int z p = signed_back w16 w32 Short short_lanes.fits short_in_32 z p ∙ sym (int_lanes.wraps z ∙ int_wrap_fits w32 z (short_in_32 z p))

-- ---- to bytes

-- what is asked of each lane, where it holds of op of any lane and k
pub asks_splat : (Q : ℕ → Type 0) (op : ℕ → ℕ → ℕ) (k n : ℕ) (us : List ℕ) → ((u : ℕ) → Q (op u k)) → Each1 Q (zip2 op us (replicate n k))
asks_splat Q op k n [] each = tt
asks_splat Q op k zero (u ∷ us) each = tt
asks_splat Q op k (suc n) (u ∷ us) each = (each u, asks_splat Q op k n us each)

module _ (w : Width) (room : 256 ≤ 2 ^ hbits w) where
  low_byte : (u : ℕ) → to_z w (bit_and u 255) ≡ pos (bit_and u 255)
  low_byte u = to_z_pos w (bit_and u 255) (omega (arith, and_le_r u 255))

  pub byte_asks : (n : ℕ) (us : List ℕ) → Each1 (λ u. T (non_neg (to_z w u)) × Fits w8 (unsigned_abs (to_z w u))) (zip2 bit_and us (replicate n 255))
  byte_asks n us = asks_splat (λ u. T (non_neg (to_z w u)) × Fits w8 (unsigned_abs (to_z w u))) bit_and 255 n us
      (λ u. subst (λ y. T (non_neg y) × Fits w8 (unsigned_abs y)) (sym (low_byte u)) (tt, record { fits = omega (arith, and_le_r u 255) }))

  to_byte : (z : ℤ) → of_z w z % 256 ≡ residue z 256 → pos (unsigned_abs (to_z w (bit_and (of_z w z) 255))) ≡ wrap Byte z
  to_byte z low = ap (λ y. pos (unsigned_abs y)) (low_byte (of_z w z)) ∙ ap pos (and_mask (of_z w z) 8 ∙ low)

low_of_short : (z : ℤ) → SFits w16 z → of_z w16 z % 256 ≡ residue z 256
low_of_short (pos n) h = refl
low_of_short (negsuc n) h = omega (arith, h.sfits)

low_of_int : (z : ℤ) → SFits w32 z → of_z w32 z % 256 ≡ residue z 256
low_of_int (pos n) h = refl
low_of_int (negsuc n) h = omega (arith, h.sfits)

pub short_to_byte : (z : ℤ) → IsItem Short z → pos (unsigned_abs (to_z w16 (bit_and (of_z w16 z) 255))) ≡ wrap Byte z
short_to_byte z p = to_byte w16 (omega arith) z (low_of_short z (short_lanes.fits z p))

pub int_to_byte : (z : ℤ) → IsItem Int z → pos (unsigned_abs (to_z w32 (bit_and (of_z w32 z) 255))) ≡ wrap Byte z
int_to_byte z p = to_byte w32 (omega arith) z (low_of_int z (int_lanes.fits z p))

-- ---- from ints to shorts: the low half is shifted up and down again

abbrev pub up : ℕ → ℕ → ℕ
up a b = (a * 2 ^ b) % 2 ^ 32

abbrev pub down : ℕ → ℕ → ℕ
down a b = of_z w32 (shr_z (to_z w32 a) (2 ^ b))

to_z_neg : (n : ℕ) → 2 ^ 31 ≤ n → to_z w32 n ≡ negsuc (2 ^ 32 - suc n)
to_z_neg n le = go (ltb n (2 ^ 31)) refl
  where
    go : (t : Bool) → ltb n (2 ^ 31) ≡ t → to_z w32 n ≡ negsuc (2 ^ 32 - suc n)
    go true e = absurd (omega (arith, ltb-true _ _ e))
    go false e = rw e

half : (u : ℕ) → shr_z (to_z w32 (up u 16)) (2 ^ 16) ≡ to_z w16 (u % 65536)
half u = ap (λ v. shr_z (to_z w32 v) (2 ^ 16)) shifted ∙ go (ltb (u % 65536) 32768) refl
  where
    shifted : up u 16 ≡ u % 65536 * 65536
    shifted = omega arith

    go : (t : Bool) → ltb (u % 65536) 32768 ≡ t → shr_z (to_z w32 (u % 65536 * 65536)) (2 ^ 16) ≡ to_z w16 (u % 65536)
    go true e =
        let small : u % 65536 < 32768 = ltb-true _ _ e in
        let back : u % 65536 * 65536 / 65536 ≡ u % 65536 = omega arith in
        ap (λ y. shr_z y (2 ^ 16)) (to_z_pos w32 (u % 65536 * 65536) (omega arith)) ∙ ap pos back ∙ sym (to_z_pos w16 (u % 65536) small)
    go false e =
        let large : 32768 ≤ u % 65536 = ltb-false _ _ e in
        let back : (2 ^ 32 - suc (u % 65536 * 65536)) / 65536 ≡ 65536 - suc (u % 65536) = omega arith in
        ap (λ y. shr_z y (2 ^ 16)) (to_z_neg (u % 65536 * 65536) (omega arith)) ∙ rw e (ap negsuc back)

half_is : (u : ℕ) → shr_z (to_z w32 (up u 16)) (2 ^ 16) ≡ int_wrap w16 (pos u)
unfolding int_wrap
half_is u = half u

half_fits : (u : ℕ) → SFits w16 (shr_z (to_z w32 (up u 16)) (2 ^ 16))
half_fits u = subst (SFits w16) (sym (half_is u)) (SFits-int_wrap w16 (pos u))

half_held : (u : ℕ) → to_z w32 (down (up u 16) 16) ≡ shr_z (to_z w32 (up u 16)) (2 ^ 16)
half_held u = to_z-of_z w32 _ (record { sfits = omega (arith, (half_fits u).sfits) })

halves : (Q : ℕ → Type 0) (n : ℕ) (us : List ℕ) → ((u : ℕ) → Q (down (up u 16) 16)) → Each1 Q (zip2 down (zip2 up us (replicate n 16)) (replicate n 16))
halves Q n [] each = tt
halves Q zero (u ∷ us) each = tt
halves Q (suc n) (u ∷ us) each = (each u, halves Q n us each)

pub short_asks : (n : ℕ) (us : List ℕ) → Each1 (λ u. SFits w16 (to_z w32 u)) (zip2 down (zip2 up us (replicate n 16)) (replicate n 16))
short_asks n us = halves (λ u. SFits w16 (to_z w32 u)) n us (λ u. subst (SFits w16) (sym (half_held u)) (half_fits u))

-- as lists of n lanes
pub halved_lanes : {X : Type 0} (bits : X → ℕ) (n : ℕ) (xs : List X) → length xs ≡ n
    → map (to_z w16) (map (λ u. of_z w16 (to_z w32 u)) (zip2 down (zip2 up (map bits xs) (replicate n 16)) (replicate n 16))) ≡ map (λ x. to_z w16 (of_z w16 (to_z w32 (down (up (bits x) 16) 16)))) xs
halved_lanes bits zero [] e = refl
halved_lanes bits zero (x ∷ xs) e = absurd (omega arith)
halved_lanes bits (suc n) [] e = absurd (omega arith)
halved_lanes bits (suc n) (x ∷ xs) e = ap (λ ys. to_z w16 (of_z w16 (to_z w32 (down (up (bits x) 16) 16))) ∷ ys) (halved_lanes bits n xs (omega arith))

half_of_int : (z : ℤ) → SFits w32 z → of_z w32 z % 65536 ≡ residue z 65536
half_of_int (pos n) h = refl
half_of_int (negsuc n) h = omega (arith, h.sfits)

pub int_to_short : (z : ℤ) → IsItem Int z → to_z w16 (of_z w16 (to_z w32 (down (up (of_z w32 z) 16) 16))) ≡ wrap Short z
int_to_short z p =
    let u = of_z w32 z in
    ap (λ y. to_z w16 (of_z w16 y)) (half_held u) ∙ to_z-of_z w16 _ (half_fits u) ∙ half u
    ∙ ap (to_z w16) (half_of_int z (int_lanes.fits z p)) ∙ sym (centred_short (residue z 65536))
