-- Lanes that are kept within two ends.
use Rattle.std.proofs.Common.{◌≡◌, ℕ, zero, suc, List, [], ◌∷◌, map, replicate, length, refl, ap, ◌∙◌, arith, Bool, true, false, cond, w16, w32, w64, ℤ, pos, negsuc}
use lib.Lanes.{zip2, Each1, top, sel_l, put_chunk}
use lib.Signed.{lt_z}
use mir.Syntax.{Width, mask, lt, cast, signed}
use mir.Val.{SFits, to_z, of_z, hbits}
use borrow.Table.Row.{s_int}
use borrow.Rule.Simd.Lanes.{act2, act1, Asks1}
use Rattle.std.proofs.lemmas.Int.{ints, to_z-of_z}
use Rattle.std.proofs.lemmas.List.{map-id, length-map}
use Rattle.std.proofs.lemmas.Simd.{map-map, tops_compared}
use Rattle.stream_model.specs.Numbers.{sat}
use Rattle.stream_model.specs.declared.vocabulary.ItemType.{ItemType}
use Rattle.stream_model.specs.declared.vocabulary.ItemType.TheVariants.{Short, Int}
use Rattle.numbers.proofs.Widths.{cast_asks}
use Rattle.lane_filters.proofs.Signed.{back, cast_is}
use Rattle.lane_filters.proofs.Lists.{map_same}

picked : (u : Width) (b : Bool) (x y : ℤ) → cond b (of_z u x) (of_z u y) ≡ of_z u (cond b x y)
picked u true x y = refl
picked u false x y = refl

abbrev raised : ℤ → ℤ → ℤ
raised low z = cond (lt_z z low) low z

abbrev lowered : ℤ → ℤ → ℤ
lowered high z = cond (lt_z z high) z high

raise : (u : Width) (n : ℕ) (low : ℤ) (xs : List ℤ) → length xs ≡ n → Each1 (SFits u) xs → SFits u low
    → sel_l (zip2 (λ a b. lt_z (to_z u a) (to_z u b)) (map (of_z u) xs) (replicate n (of_z u low))) (replicate n (of_z u low)) (map (of_z u) xs) ≡ map (of_z u) (map (raised low) xs)
raise u n low [] e h f = refl
raise u zero low (x ∷ xs) e h f = absurd (omega arith)
raise u (suc n) low (x ∷ xs) e h f = rw (to_z-of_z u x h.0, to_z-of_z u low f, picked u (lt_z x low) low x, raise u n low xs (omega arith) h.1 f)

lower_to : (u : Width) (n : ℕ) (high : ℤ) (xs : List ℤ) → length xs ≡ n → Each1 (SFits u) xs → SFits u high
    → sel_l (zip2 (λ a b. lt_z (to_z u a) (to_z u b)) (map (of_z u) xs) (replicate n (of_z u high))) (map (of_z u) xs) (replicate n (of_z u high)) ≡ map (of_z u) (map (lowered high) xs)
lower_to u n high [] e h f = refl
lower_to u zero high (x ∷ xs) e h f = absurd (omega arith)
lower_to u (suc n) high (x ∷ xs) e h f = rw (to_z-of_z u x h.0, to_z-of_z u high f, picked u (lt_z x high) x high, lower_to u n high xs (omega arith) h.1 f)

pub short_is : (z : ℤ) → lowered (pos 32767) (raised (negsuc 32767) z) ≡ sat Short z
short_is z = grind (arith, ints)

pub int_is : (z : ℤ) → lowered (pos 2147483647) (raised (negsuc 2147483647) z) ≡ sat Int z
int_is z = grind (arith, ints)

raised_fits : (u : Width) (low : ℤ) (xs : List ℤ) → Each1 (SFits u) xs → SFits u low → Each1 (SFits u) (map (raised low) xs)
raised_fits u low [] h f = tt
raised_fits u low (x ∷ xs) h f = (elim (lt_z x low) as (λ b. SFits u (cond b low x)) [ true ↦ f | false ↦ h.0 ], raised_fits u low xs h.1 f)

pub sat_fits : (t : ItemType) (v : Width) → ((z : ℤ) → SFits v (sat t z)) → (xs : List ℤ) → Each1 (SFits v) (map (sat t) xs)
sat_fits t v h [] = tt
sat_fits t v h (x ∷ xs) = (h x, sat_fits t v h xs)

pub short_sat : (z : ℤ) → SFits w16 (sat Short z)
short_sat z = record { sfits = grind (arith, ints) }

pub int_sat : (z : ℤ) → SFits w32 (sat Int z)
int_sat z = record { sfits = grind (arith, ints) }

pub wider_16 : (z : ℤ) → SFits w16 z → SFits w64 z
wider_16 z f = record { sfits = omega (arith, f) }

pub wider_short : (z : ℤ) → SFits w16 z → SFits w32 z
wider_short z f = record { sfits = omega (arith, f) }

pub wider_32 : (z : ℤ) → SFits w32 z → SFits w64 z
wider_32 z f = record { sfits = omega (arith, f) }

-- what `select` reads of a comparison of lanes
abbrev pub IsCompared : Width → Type 0
IsCompared u =
    (xs ys : List ℕ) → map (top (hbits u)) (zip2 (act2 (mask (lt signed)) (s_int u) (s_int u) (s_int u)) xs ys) ≡ zip2 (λ a b. lt_z (to_z u a) (to_z u b)) xs ys

pub compared_32 : IsCompared w32
compared_32 xs ys = tops_compared w32 (λ a b. lt_z (to_z w32 a) (to_z w32 b)) xs ys

pub compared_64 : IsCompared w64
compared_64 xs ys = tops_compared w64 (λ a b. lt_z (to_z w64 a) (to_z w64 b)) xs ys

-- eight lanes, kept within the ends of the type t, whose width is v
module _ (u : Width) (compared : IsCompared u) (t : ItemType) (v : Width) (low high : ℤ) (is : (z : ℤ) → lowered high (raised low z) ≡ sat t z) (fits : (z : ℤ) → SFits v (sat t z)) (wide : (z : ℤ) → SFits u (sat t z))
    (f : SFits u low) (g : SFits u high) (xs : List ℤ) (long : length xs ≡ 8) (near : Each1 (SFits u) xs) where
  abbrev lows : List ℕ
  lows = replicate 8 (of_z u low)

  abbrev highs : List ℕ
  highs = replicate 8 (of_z u high)

  abbrev up : List ℕ
  up = sel_l (map (top (hbits u)) (zip2 (act2 (mask (lt signed)) (s_int u) (s_int u) (s_int u)) (map (of_z u) xs) lows)) lows (map (of_z u) xs)

  abbrev pub capped : List ℕ
  capped = sel_l (map (top (hbits u)) (zip2 (act2 (mask (lt signed)) (s_int u) (s_int u) (s_int u)) up highs)) up highs

  up_is : up ≡ map (of_z u) (map (raised low) xs)
  up_is =
      ap (λ ms. sel_l ms lows (map (of_z u) xs)) (compared (map (of_z u) xs) lows)
      ∙ raise u 8 low xs long near f

  pub capped_is : capped ≡ map (of_z u) (map (sat t) xs)
  capped_is =
      ap (λ ns. sel_l (map (top (hbits u)) (zip2 (act2 (mask (lt signed)) (s_int u) (s_int u) (s_int u)) ns highs)) ns highs) up_is
      ∙ ap (λ ms. sel_l ms (map (of_z u) (map (raised low) xs)) highs) (compared (map (of_z u) (map (raised low) xs)) highs)
      ∙ lower_to u 8 high (map (raised low) xs) (length-map xs (raised low) ∙ long) (raised_fits u low xs near f) g
      ∙ ap (map (of_z u)) (map-map (lowered high) (raised low) xs ∙ map_same (λ z. lowered high (raised low z)) (sat t) is xs)

  pub capped_asks : Each1 (Asks1 (cast signed signed v) (s_int u)) capped
  capped_asks = rw capped_is (cast_asks u v (map (sat t) xs) (sat_fits t u wide xs) (sat_fits t v fits xs))

  pub lanes_are : map (to_z v) (map (act1 (cast signed signed v) (s_int u) (s_int v)) capped) ≡ map (sat t) xs
  lanes_are =
      ap (λ ns. map (to_z v) (map (act1 (cast signed signed v) (s_int u) (s_int v)) ns)) capped_is
      ∙ ap (map (to_z v)) (cast_is u v (map (sat t) xs) (sat_fits t u wide xs))
      ∙ back v (map (sat t) xs) (sat_fits t v fits xs)

  pub written_is : (at : ℕ) (out : List ℤ)
      → map (λ z. z) (put_chunk at out (map (to_z v) (map (act1 (cast signed signed v) (s_int u) (s_int v)) capped))) ≡ put_chunk at (map (λ z. z) out) (map (sat t) xs)
  written_is at out =
      rw (map-id out, map-id (put_chunk at out (map (to_z v) (map (act1 (cast signed signed v) (s_int u) (s_int v)) capped))))
      (ap (put_chunk at out) lanes_are)
