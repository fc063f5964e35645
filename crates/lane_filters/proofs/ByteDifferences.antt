-- Differences of bytes modulo a number.
use Rattle.std.proofs.Common.{◌≡◌, ℕ, zero, suc, ◌+◌, ◌-◌, ◌*◌, ◌/◌, ◌%◌, ◌<◌, ◌≤◌, ◌^◌, List, [], ◌∷◌, map, replicate, length, refl, ap, sym, subst, ◌∙◌, arith, w8, w32, Bool, true, false, nat_le, ℤ, pos, negsuc, ◌+ℤ◌, ◌-ℤ◌}
use lib.Lanes.{zip2, Each1}
use lib.Bits.{bit_and, and_mask}
use mir.Syntax.{wrap_add, wrap_sub, wrap_mul, shr, cast, unsigned}
use mir.Syntax as S
use borrow.Author.Tests.{leb-true, leb-false}
use mir.Val.{Fits}
use borrow.Table.Row.{s_int}
use borrow.Rule.Simd.Lanes.{act1, act2, Asks1}
use Rattle.std.specs.Int.{int_rem_euclid}
use Rattle.std.proofs.Math.Nat.{le_of_mul-le-mul_left, mul-le-mul_left, mul-le-mul_right, one-le-pow}
use Rattle.std.proofs.Math.Pow.{mod-mod-pow, pow_mono}
use Rattle.std.proofs.lemmas.Nat.{pow-add}
use Rattle.std.proofs.lemmas.Int.{ints, int_rem_euclid_is}
use Rattle.stream_model.specs.Numbers.{residue}
use Rattle.lane_filters.specs.Words.{byte_difference}

residue_euclid : (z : ℤ) (n : ℕ) → int_rem_euclid z (pos n) ≡ pos (residue z n)
residue_euclid (pos a) n = refl
residue_euclid (negsuc a) n = refl

pos_same : (a b : ℕ) → pos a ≡ pos b → a ≡ b
pos_same a b e = cc

residue_mod : (z : ℤ) (n k v : ℕ) → 0 < n → z +ℤ pos (k * n) ≡ pos v → residue z n ≡ v % n
residue_mod z n k v lt e = pos_same (residue z n) (v % n) (sym (residue_euclid z n) ∙ int_rem_euclid_is z (pos n) n k v lt refl e)

-- with a multiple of m above the earlier byte
pub difference_is : (m k d p : ℕ) → 0 < m → p ≤ k * m → byte_difference m d p ≡ (d + (k * m - p)) % m
difference_is m k d p lt le = residue_mod (pos d -ℤ pos p) m k (d + (k * m - p)) lt (omega (arith, ints))

pub scalar_is : (m d p : ℕ) → 2 ≤ m → p < 256 → (d + 256 * m - p) % m ≡ byte_difference m d p
scalar_is m d p le lt =
    let e : d + 256 * m - p ≡ d + (256 * m - p) = omega arith in
    ap (λ v. v % m) e ∙ sym (difference_is m 256 d p (omega arith) (omega arith))

within : (n q : ℕ) → q * 2 ^ 20 ≤ n → n < (q + 1) * 2 ^ 20 → n / 2 ^ 20 ≡ q
within n q l u = omega arith

last : (v a r : ℕ) → a + r ≡ v → v < 1024 → (v + (2 ^ 32 - a % 2 ^ 32)) % 2 ^ 32 ≡ r
last v a r e lt = omega arith

pow_pos : (k : ℕ) → 0 < 2 ^ k
pow_pos k = one-le-pow k 2 (omega arith)

-- by a mask
pub masked_is : (m k d p : ℕ) → m ≡ 2 ^ k → k ≤ 8 → p < 256 → bit_and ((d + (256 - p)) % 256) (m - 1) ≡ byte_difference m d p
masked_is m k d p e le lt =
    let n = d + (256 - p) in
    let bits : 8 ≡ (8 - k) + k = omega arith in
    let whole : 2 ^ 8 ≡ 2 ^ (8 - k) * m = ap (λ j. 2 ^ j) bits ∙ pow-add 2 (8 - k) k ∙ ap (λ j. 2 ^ (8 - k) * j) (sym e) in
    let some : 0 < m = rw e (pow_pos k) in
    ap (λ j. bit_and (n % 256) (j - 1)) e ∙ and_mask (n % 256) k
    ∙ ap (λ j. n % 2 ^ j % 2 ^ k) bits ∙ mod-mod-pow n (8 - k) k ∙ ap (λ j. n % j) (sym e)
    ∙ ap (λ w. (d + (w - p)) % m) whole
    ∙ sym (difference_is m (2 ^ (8 - k)) d p some (subst (λ w. p ≤ w) whole (omega arith)))

-- by a reciprocal
module _ (m v c : ℕ) (least : 2 ≤ m) (most : m ≤ 256) (few : v < 1024) (is : c ≡ (2 ^ 20 + m - 1) / m) where
  above : 2 ^ 20 ≤ m * c
  above = rw is (omega arith)

  below : m * c ≤ 2 ^ 20 + 255
  below = rw is (omega arith)

  quotient : v * c / 2 ^ 20 ≡ v / m
  quotient =
      let a : v * 2 ^ 20 ≤ v * (m * c) = mul-le-mul_left v above in
      let b : v * (m * c) ≤ v * (2 ^ 20 + 255) = mul-le-mul_left v below in
      let r : m * (v / m) + v % m ≡ v = omega arith in
      let s : v % m < m = omega arith in
      let lower : m * ((v / m) * 2 ^ 20) ≤ m * (v * c) = omega arith in
      let upper : m * suc (v * c) ≤ m * ((v / m + 1) * 2 ^ 20) = omega arith in
      within (v * c) (v / m) (le_of_mul-le-mul_left lower (omega arith)) (le_of_mul-le-mul_left upper (omega arith))

  small : v * c < 2 ^ 31
  small =
      let b : v * (m * c) ≤ v * (2 ^ 20 + 255) = mul-le-mul_left v below in
      let t : 2 * (v * c) ≤ m * (v * c) = mul-le-mul_right (v * c) least in
      omega arith

  -- what the lanes compute
  remainder : (v + (2 ^ 32 - (v * c % 2 ^ 32 / 2 ^ 20 * m) % 2 ^ 32)) % 2 ^ 32 ≡ v % m
  remainder =
      let t : v * c % 2 ^ 32 ≡ v * c = let u = small in omega arith in
      let q : v * c % 2 ^ 32 / 2 ^ 20 * m ≡ v / m * m = ap (λ n. n / 2 ^ 20 * m) t ∙ ap (λ n. n * m) quotient in
      ap (λ n. (v + (2 ^ 32 - n % 2 ^ 32)) % 2 ^ 32) q ∙ last v (v / m * m) (v % m) (omega arith) few

abbrev pub lane : ℕ → ℕ → ℕ → ℕ → ℕ → ℕ
lane whole c m d p =
    ((d + (whole + (2 ^ 32 - p)) % 2 ^ 32) % 2 ^ 32 + (2 ^ 32 - ((d + (whole + (2 ^ 32 - p)) % 2 ^ 32) % 2 ^ 32 * c % 2 ^ 32 / 2 ^ 20 * m) % 2 ^ 32)) % 2 ^ 32

pub lane_is : (whole c m d p : ℕ) → 2 ≤ m → m ≤ 256 → whole ≡ (255 + m) / m * m → c ≡ (2 ^ 20 + m - 1) / m → d < 256 → p < 256 → lane whole c m d p ≡ byte_difference m d p
lane_is whole c m d p least most e is ld lp =
    let low : 255 < whole = rw e (omega arith) in
    let high : whole ≤ 511 = rw e (omega arith) in
    let v : (d + (whole + (2 ^ 32 - p)) % 2 ^ 32) % 2 ^ 32 ≡ d + (whole - p) = omega arith in
    let le : p ≤ (255 + m) / m * m = rw (← e) (omega arith) in
    ap (λ n. (n + (2 ^ 32 - (n * c % 2 ^ 32 / 2 ^ 20 * m) % 2 ^ 32)) % 2 ^ 32) v
    ∙ remainder m (d + (whole - p)) c least most (omega arith) is
    ∙ ap (λ w. (d + (w - p)) % m) e
    ∙ sym (difference_is m ((255 + m) / m) d p (omega arith) le)

-- the vectors of the code, n lanes
abbrev raised : ℕ → ℕ → List ℕ → List ℕ → List ℕ
raised n whole ds ps =
    zip2 (act2 wrap_add (s_int w32) (s_int w32) (s_int w32)) (map (act1 (cast unsigned unsigned w32) (s_int w8) (s_int w32)) ds)
    (zip2 (act2 wrap_sub (s_int w32) (s_int w32) (s_int w32)) (replicate n whole) (map (act1 (cast unsigned unsigned w32) (s_int w8) (s_int w32)) ps))

abbrev pub remainders : ℕ → ℕ → ℕ → ℕ → List ℕ → List ℕ → List ℕ
remainders n whole c m ds ps =
    zip2 (act2 wrap_sub (s_int w32) (s_int w32) (s_int w32)) (raised n whole ds ps)
    (zip2 (act2 wrap_mul (s_int w32) (s_int w32) (s_int w32))
    (zip2 (act2 (shr unsigned) (s_int w32) (s_int w32) (s_int w32)) (zip2 (act2 wrap_mul (s_int w32) (s_int w32) (s_int w32)) (raised n whole ds ps) (replicate n c)) (replicate n 20))
    (replicate n m))

lanes_are : (n whole c m : ℕ) (ds ps : List ℕ) → length ds ≡ n → length ps ≡ n → remainders n whole c m ds ps ≡ zip2 (lane whole c m) ds ps
lanes_are n whole c m [] ps d p = refl
lanes_are zero whole c m (x ∷ ds) ps d p = absurd (omega arith)
lanes_are (suc n) whole c m (x ∷ ds) [] d p = absurd (omega arith)
lanes_are (suc n) whole c m (x ∷ ds) (y ∷ ps) d p = ap (λ l. lane whole c m x y ∷ l) (lanes_are n whole c m ds ps (omega arith) (omega arith))

zip_same : (f g : ℕ → ℕ → ℕ) → ((a b : ℕ) → a < 256 → b < 256 → f a b ≡ g a b) → (xs ys : List ℕ) → Each1 (Fits w8) xs → Each1 (Fits w8) ys → zip2 f xs ys ≡ zip2 g xs ys
zip_same f g e [] ys h k = refl
zip_same f g e (x ∷ xs) [] h k = refl
zip_same f g e (x ∷ xs) (y ∷ ys) h k = rw (e x y h.0.fits k.0.fits, zip_same f g e xs ys h.1 k.1)

pub remainders_are : (whole c m : ℕ) (ds ps : List ℕ) → 2 ≤ m → m ≤ 256 → whole ≡ (255 + m) / m * m → c ≡ (2 ^ 20 + m - 1) / m → length ds ≡ 16 → length ps ≡ 16
    → Each1 (Fits w8) ds → Each1 (Fits w8) ps → remainders 16 whole c m ds ps ≡ zip2 (byte_difference m) ds ps
remainders_are whole c m ds ps least most e is ld lp fd fp =
    lanes_are 16 whole c m ds ps ld lp ∙ zip_same (lane whole c m) (byte_difference m) (λ d p hd hp. lane_is whole c m d p least most e is hd hp) ds ps fd fp

residue_below : (z : ℤ) (m : ℕ) → 0 < m → residue z m < m
residue_below (pos n) m h = omega arith
residue_below (negsuc n) m h = omega arith

fit_bytes : (m : ℕ) → 2 ≤ m → m ≤ 256 → (xs ys : List ℕ) → Each1 (Fits w8) (zip2 (byte_difference m) xs ys)
fit_bytes m least most [] ys = tt
fit_bytes m least most (x ∷ xs) [] = tt
fit_bytes m least most (x ∷ xs) (y ∷ ys) = (record { fits = let h = residue_below (pos x -ℤ pos y) m (omega arith) in omega arith }, fit_bytes m least most xs ys)

narrow_asks : (xs : List ℕ) → Each1 (Fits w8) xs → Each1 (Asks1 (cast unsigned unsigned w8) (s_int w32)) xs
narrow_asks [] h = tt
narrow_asks (x ∷ xs) h = (h.0, narrow_asks xs h.1)

narrow_is : (xs : List ℕ) → map (act1 (cast unsigned unsigned w8) (s_int w32) (s_int w8)) xs ≡ xs
narrow_is [] = refl
narrow_is (x ∷ xs) = ap (λ l. x ∷ l) (narrow_is xs)

module _ (whole c m : ℕ) (ds ps : List ℕ) (least : 2 ≤ m) (most : m ≤ 256) (e : whole ≡ (255 + m) / m * m) (is : c ≡ (2 ^ 20 + m - 1) / m) (ld : length ds ≡ 16) (lp : length ps ≡ 16)
    (fd : Each1 (Fits w8) ds) (fp : Each1 (Fits w8) ps) where
  pub reduced_asks : Each1 (Asks1 (cast unsigned unsigned w8) (s_int w32)) (remainders 16 whole c m ds ps)
  reduced_asks = narrow_asks _ (subst (Each1 (Fits w8)) (sym (remainders_are whole c m ds ps least most e is ld lp fd fp)) (fit_bytes m least most ds ps))

  pub reduced_are : map (act1 (cast unsigned unsigned w8) (s_int w32) (s_int w8)) (remainders 16 whole c m ds ps) ≡ zip2 (byte_difference m) ds ps
  reduced_are = narrow_is (remainders 16 whole c m ds ps) ∙ remainders_are whole c m ds ps least most e is ld lp fd fp

-- the vectors where m is a power of two
masks_are : (n m : ℕ) (ds ps : List ℕ) → length ds ≡ n → length ps ≡ n
    → zip2 (act2 S.bit_and (s_int w8) (s_int w8) (s_int w8)) (zip2 (act2 wrap_sub (s_int w8) (s_int w8) (s_int w8)) ds ps) (replicate n (m - 1)) ≡ zip2 (λ d p. bit_and ((d + (256 - p)) % 256) (m - 1)) ds ps
masks_are n m [] ps d p = refl
masks_are zero m (x ∷ ds) ps d p = absurd (omega arith)
masks_are (suc n) m (x ∷ ds) [] d p = absurd (omega arith)
masks_are (suc n) m (x ∷ ds) (y ∷ ps) d p = ap (λ l. bit_and ((x + (256 - y)) % 256) (m - 1) ∷ l) (masks_are n m ds ps (omega arith) (omega arith))

pub masked_are : (m k : ℕ) (ds ps : List ℕ) → m ≡ 2 ^ k → k ≤ 8 → length ds ≡ 16 → length ps ≡ 16 → Each1 (Fits w8) ds → Each1 (Fits w8) ps
    → zip2 (act2 S.bit_and (s_int w8) (s_int w8) (s_int w8)) (zip2 (act2 wrap_sub (s_int w8) (s_int w8) (s_int w8)) ds ps) (replicate 16 (m - 1)) ≡ zip2 (byte_difference m) ds ps
masked_are m k ds ps e le ld lp fd fp =
    masks_are 16 m ds ps ld lp ∙ zip_same (λ d p. bit_and ((d + (256 - p)) % 256) (m - 1)) (byte_difference m) (λ d p hd hp. masked_is m k d p e le hp) ds ps fd fp

power_cases : (k : ℕ) → (b : Bool) → nat_le k 8 ≡ b → 2 ^ k ≤ 256 → k ≤ 8
power_cases k true e h = leb-true k 8 e
power_cases k false e h = let l : 9 ≤ k = leb-false k 8 e in let p : 2 ^ 9 ≤ 2 ^ k = pow_mono {i = 9} l in absurd (omega arith)

pub power_small : (k : ℕ) → 2 ^ k ≤ 256 → k ≤ 8
power_small k h = power_cases k (nat_le k 8) refl h
