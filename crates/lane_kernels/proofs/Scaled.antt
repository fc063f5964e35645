-- The lanes that are shifted, raised by a half, shifted again and clamped hold rounded and saturated quotients.
use Rattle.std.proofs.Common.{◌≡◌, ℕ, zero, suc, ◌+◌, ◌-◌, ◌/◌, ◌%◌, ◌^◌, ◌<◌, ◌≤◌, ◌∙◌, min, Bool, true, false, cond, ap, refl, subst, arith, List, [], ◌∷◌, map, length, replicate, ℤ, pos, negsuc, ◌+ℤ◌, ◌≤ℤ◌, of_z, to_z, SFits, unsigned_abs, inl, inr}
use Rattle.std.specs.Int.{Width}
use Rattle.std.specs.Int.Signed.{mag, shr_z, mag_shr, lt_z}
use Rattle.std.specs.List.{All}
use Rattle.std.proofs.lemmas.Int.{ints, to_z-of_z, wrapping_add_is, int_wrap_fits}
use Rattle.std.proofs.lemmas.Bool.{cases_lt}
use Rattle.std.proofs.lemmas.List.{length-map}
use Rattle.std.proofs.lemmas.Simd.{map-map}
use lib.Lanes.{zip2, sel_l, top}
use mir.Val.{bits, hbits}
use Rattle.stream_model.specs.Numbers.{floor_div, rnd}
use Rattle.stream_model.proofs.Maps.{map-agree}
use Rattle.lane_kernels.specs.Blocks.{IsWithin, clamped}
use Rattle.lane_kernels.proofs.Lanes.{map_of_bits}
use Rattle.numbers.proofs.Rounding.{shr_floors, rounds, shifted_at_once, below_zero, from_zero}

module _ (w : Width) where
  abbrev pub shift : ℕ → ℕ → ℕ
  shift a b = of_z w (shr_z (to_z w a) (2 ^ b))

  abbrev pub raise : ℕ → ℕ → ℕ
  raise a b = (a + b) % 2 ^ bits w

  abbrev pub less : ℕ → ℕ → ℕ
  less a b = cond (lt_z (to_z w a) (to_z w b)) (2 ^ bits w - 1) zero

  -- the quotients: in narrow lanes all places but the last are shifted out before the half is added
  abbrev pub narrow : ℕ → ℕ → ℕ → List ℕ → List ℕ
  narrow first last n us = zip2 shift (zip2 raise (zip2 shift us (replicate n first)) (replicate n last)) (replicate n last)

  abbrev pub wide : ℕ → ℕ → ℕ → List ℕ → List ℕ
  wide half s n us = zip2 shift (zip2 raise us (replicate n half)) (replicate n s)

  pub narrow_lanes : (first last n : ℕ) (us : List ℕ) → length us ≡ n → narrow first last n us ≡ map (λ u. shift (raise (shift u first) last) last) us
  narrow_lanes first last zero [] e = refl
  narrow_lanes first last zero (u ∷ us) e = absurd (omega arith)
  narrow_lanes first last (suc n) [] e = absurd (omega arith)
  narrow_lanes first last (suc n) (u ∷ us) e = ap (λ vs. shift (raise (shift u first) last) last ∷ vs) (narrow_lanes first last n us (omega arith))

  pub wide_lanes : (half s n : ℕ) (us : List ℕ) → length us ≡ n → wide half s n us ≡ map (λ u. shift (raise u half) s) us
  wide_lanes half s zero [] e = refl
  wide_lanes half s zero (u ∷ us) e = absurd (omega arith)
  wide_lanes half s (suc n) [] e = absurd (omega arith)
  wide_lanes half s (suc n) (u ∷ us) e = ap (λ vs. shift (raise u half) s ∷ vs) (wide_lanes half s n us (omega arith))

  module _ (least greatest : ℕ) where
    -- brought to two ends: as the machine computes it of lists of n lanes
    abbrev at_least_lanes : ℕ → List ℕ → List ℕ
    at_least_lanes n vs = sel_l (map (top (hbits w)) (zip2 less vs (replicate n least))) (replicate n least) vs

    abbrev at_most_lanes : ℕ → List ℕ → List ℕ
    at_most_lanes n vs = sel_l (map (top (hbits w)) (zip2 less vs (replicate n greatest))) vs (replicate n greatest)

    abbrev pub ended : ℕ → List ℕ → List ℕ
    ended n vs = at_most_lanes n (at_least_lanes n vs)

    -- and of one lane
    abbrev at_least : ℕ → ℕ
    at_least v = cond (top (hbits w) (less v least)) least v

    abbrev at_most : ℕ → ℕ
    at_most v = cond (top (hbits w) (less v greatest)) v greatest

    ended_lanes : (n : ℕ) (vs : List ℕ) → length vs ≡ n → ended n vs ≡ map (λ v. at_most (at_least v)) vs
    ended_lanes zero [] e = refl
    ended_lanes zero (v ∷ vs) e = absurd (omega arith)
    ended_lanes (suc n) [] e = absurd (omega arith)
    ended_lanes (suc n) (v ∷ vs) e = ap (λ us. at_most (at_least v) ∷ us) (ended_lanes n vs (omega arith))

mag-le-abs : (z : ℤ) → mag z ≤ unsigned_abs z
mag-le-abs (pos n) = omega arith
mag-le-abs (negsuc n) = omega arith

mag-raised : (z : ℤ) (k : ℕ) → mag (z +ℤ pos k) ≤ mag z + k
mag-raised (pos n) k = omega arith
mag-raised (negsuc n) k = elim (cases_lt k (suc n)) [
  | inl l ↦ omega (arith, ap mag (below_zero k (suc n) l))
  | inr g ↦ omega (arith, ap mag (from_zero k (suc n) g))
]

-- what the two choices give is the number, or the nearer of the two ends
picked : (z least greatest : ℤ) → least ≤ℤ greatest
    → cond (lt_z (cond (lt_z z least) least z) greatest) (cond (lt_z z least) least z) greatest ≡ clamped least greatest z
picked z least greatest le = grind (arith, ints)

chosen : {w : Width} (t : Bool) (x y : ℤ) → SFits w x → SFits w y → SFits w (cond t x y)
chosen true x y p q = p
chosen false x y p q = q

-- the lane u of a number holds the quotient y
pub record IsQuotient (w : Width) (u : ℕ) (y : ℤ) : Type 0 where
  pub is : u ≡ of_z w y
  pub fits : SFits w y

module _ (w : Width) (s : ℕ) (bound : ℕ) where
  pub narrow_lane : (last : ℕ) → last ≡ min s 1 → bound + 1 < 2 ^ hbits w → (z : ℤ) → IsWithin bound z
      → IsQuotient w (shift w (raise w (shift w (of_z w z) (s - last)) last) last) (rnd z s)
  narrow_lane last is_last room z h =
      let first = s - last in
      let fz : SFits w z = record { sfits = omega (arith, mag-le-abs z, h.near) } in
      let z1 = shr_z z (2 ^ first) in
      let f1 : SFits w z1 = record { sfits = omega (arith, mag-le-abs z, h.near, mag_shr z (2 ^ first)) } in
      let fl : SFits w (pos last) = record { sfits = omega arith } in
      let fs : SFits w (z1 +ℤ pos last) = record { sfits = omega (arith, mag-le-abs z, h.near, mag_shr z (2 ^ first), mag-raised z1 last) } in
      let z2 = shr_z (z1 +ℤ pos last) (2 ^ last) in
      let f2 : SFits w z2 = record { sfits = omega (arith, fs.sfits, mag_shr (z1 +ℤ pos last) (2 ^ last)) } in
      let sum : to_z w (raise w (of_z w z1) last) ≡ z1 +ℤ pos last = wrapping_add_is w z1 (pos last) f1 fl ∙ int_wrap_fits w (z1 +ℤ pos last) fs in
      let rounded : z2 ≡ rnd z s =
      shr_floors (z1 +ℤ pos last) (2 ^ last) ∙ ap (λ q. floor_div (q +ℤ pos last) (2 ^ last)) (shr_floors z (2 ^ first)) ∙ rounds z s last is_last in
      record {
        is = (λ i. shift w (raise w (of_z w (shr_z (to_z-of_z w z fz i) (2 ^ first))) last) last) ∙ (λ i. of_z w (shr_z (sum i) (2 ^ last))) ∙ ap (of_z w) rounded;
        fits = subst (SFits w) rounded f2;
      }

  pub wide_lane : (half : ℕ) → half ≡ 2 ^ s / 2 → bound + half < 2 ^ hbits w → (z : ℤ) → IsWithin bound z → IsQuotient w (shift w (raise w (of_z w z) half) s) (rnd z s)
  wide_lane half is_half room z h =
      let fz : SFits w z = record { sfits = omega (arith, mag-le-abs z, h.near) } in
      let fh : SFits w (pos half) = record { sfits = omega arith } in
      let fs : SFits w (z +ℤ pos half) = record { sfits = omega (arith, mag-le-abs z, h.near, mag-raised z half) } in
      let y = shr_z (z +ℤ pos half) (2 ^ s) in
      let fy : SFits w y = record { sfits = omega (arith, fs.sfits, mag_shr (z +ℤ pos half) (2 ^ s)) } in
      let sum : to_z w (raise w (of_z w z) half) ≡ z +ℤ pos half = wrapping_add_is w z (pos half) fz fh ∙ int_wrap_fits w (z +ℤ pos half) fs in
      let rounded : y ≡ rnd z s = shifted_at_once z s half is_half in
      record { is = (λ i. of_z w (shr_z (sum i) (2 ^ s))) ∙ ap (of_z w) rounded; fits = subst (SFits w) rounded fy }

module _ (w : Width) (tops : (t : Bool) → top (hbits w) (cond t (2 ^ bits w - 1) zero) ≡ t) (least greatest : ℤ)
    (low : SFits w least) (high : SFits w greatest) (ordered : least ≤ℤ greatest) where
  chosen_bits : (a b x y : ℤ) → SFits w a → SFits w b → cond (top (hbits w) (less w (of_z w a) (of_z w b))) (of_z w x) (of_z w y) ≡ of_z w (cond (lt_z a b) x y)
  chosen_bits a b x y p q =
      (λ i. cond (top (hbits w) (cond (lt_z (to_z-of_z w a p i) (to_z-of_z w b q i)) (2 ^ bits w - 1) zero)) (of_z w x) (of_z w y)) ∙ go (lt_z a b)
    where
      go : (t : Bool) → cond (top (hbits w) (cond t (2 ^ bits w - 1) zero)) (of_z w x) (of_z w y) ≡ of_z w (cond t x y)
      go true = ap (λ t. cond t (of_z w x) (of_z w y)) (tops true)
      go false = ap (λ t. cond t (of_z w x) (of_z w y)) (tops false)

  ended_lane : (u : ℕ) (y : ℤ) → IsQuotient w u y → to_z w (at_most w (of_z w least) (of_z w greatest) (at_least w (of_z w least) (of_z w greatest) u)) ≡ clamped least greatest y
  ended_lane u z2 q =
      let lo = of_z w least in
      let hi = of_z w greatest in
      let y = cond (lt_z z2 least) least z2 in
      let fy : SFits w y = chosen (lt_z z2 least) least z2 low q.fits in
      let x = cond (lt_z y greatest) y greatest in
      let fx : SFits w x = chosen (lt_z y greatest) y greatest fy high in
      (λ i. to_z w (at_most w lo hi (at_least w lo hi (q.is i))))
      ∙ (λ i. to_z w (at_most w lo hi (chosen_bits z2 least least z2 q.fits low i)))
      ∙ (λ i. to_z w (chosen_bits y greatest y greatest fy high i))
      ∙ to_z-of_z w x fx ∙ picked z2 least greatest ordered

  -- `quotients` holds the lanes q of the numbers
  pub scaled_lanes : (s : ℕ) (R : ℤ → Type 0) (q : ℕ → ℕ) → ((z : ℤ) → R z → IsQuotient w (q (of_z w z)) (rnd z s))
      → (n : ℕ) (quotients : List ℕ → List ℕ) → ((us : List ℕ) → length us ≡ n → quotients us ≡ map q us)
      → (zs : List ℤ) → length zs ≡ n → All R zs
      → map (to_z w) (ended w (of_z w least) (of_z w greatest) n (quotients (map (of_z w) zs))) ≡ map (λ z. clamped least greatest (rnd z s)) zs
  scaled_lanes s R q lane n quotients are zs e p =
      let lo = of_z w least in
      let hi = of_z w greatest in
      let us = map (of_z w) zs in
      let long : length us ≡ n = length-map zs (of_z w) ∙ e in
      ap (λ vs. map (to_z w) (ended w lo hi n vs)) (are us long)
      ∙ ap (map (to_z w)) (ended_lanes w lo hi n (map q us) (length-map us q ∙ long))
      ∙ ap (map (to_z w)) (map-map (λ v. at_most w lo hi (at_least w lo hi v)) q us)
      ∙ map_of_bits (of_z w) (to_z w) (λ u. at_most w lo hi (at_least w lo hi (q u))) zs
      ∙ map-agree R _ _ zs p (λ z r. ended_lane (q (of_z w z)) (rnd z s) (lane z r))

pub tops_32 : (t : Bool) → top 31 (cond t (2 ^ 32 - 1) zero) ≡ t
tops_32 true = refl
tops_32 false = refl

pub tops_64 : (t : Bool) → top 63 (cond t (2 ^ 64 - 1) zero) ≡ t
tops_64 true = refl
tops_64 false = refl
