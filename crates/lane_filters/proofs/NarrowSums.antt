-- Sums of taps and short items in lanes of 32 bits, two taps a turn.
use Rattle.std.proofs.Common.{◌≡◌, ℕ, zero, suc, ◌+◌, ◌-◌, ◌*◌, ◌/◌, ◌<◌, ◌≤◌, ◌^◌, List, [], ◌∷◌, ◌++◌, map, take, drop, length, refl, ap, sym, subst, ◌∙◌, arith, ℤ, pos, ◌+ℤ◌, ◌*ℤ◌, w16, w32, inl, inr}
use lib.Lanes.{zip2, Each1, Each2, pick_l}
use mir.Syntax.{add, signed}
use mir.Val.{SFits, of_z, to_z}
use borrow.Table.Row.{s_int}
use borrow.Rule.Simd.Lanes.{act2, Asks2}
use Rattle.std.specs.Int.RustNames.{unsigned_abs}
use Rattle.std.proofs.lemmas.Int.{ints, to_z-of_z, fits_signed_from_abs, unsigned_abs-mul}
use Rattle.std.proofs.lemmas.Bool.{cases_lt}
use Rattle.std.proofs.lemmas.List.{get_or-drop, get_or_past, take_rest}
use Rattle.std.proofs.lemmas.List.Sums.{sum_by-cons}
use Rattle.std.proofs.lemmas.List.Elements.{All-take, All-drop}
use Rattle.std.proofs.lemmas.Simd.{Each1-weaker}
use Rattle.std.proofs.Math.Nat.{mul-le-mul_left}
use Rattle.stream_model.specs.Lists.{sum_below, item}
use Rattle.stream_model.specs.Numbers.{IsItem, AreItems}
use Rattle.stream_model.specs.declared.vocabulary.ItemType.TheVariants.{Short}
use Rattle.numbers.proofs.Widths.{short_near, short_fits}
use Rattle.lane_filters.specs.Words.{AreWithin, tap_sum, spread_sums, paired, weight}
use Rattle.lane_filters.proofs.Signed.{abs_add, each, back, add_asks, add_is}
use Rattle.lane_filters.proofs.Products.{Known, multiplied, product_is}
use Rattle.lane_filters.proofs.Lists.{sum_more}
use Rattle.lane_filters.proofs.Taps.{abs_short}

-- ---- how far the sums are from 0

pub fits_32 : (z : ℤ) → unsigned_abs z ≤ 2 ^ 31 - 2 ^ 15 → SFits w32 z
fits_32 z h = fits_signed_from_abs w32 z (omega arith)

pub lanes_fit_32 : (xs : List ℤ) → AreWithin (2 ^ 31 - 2 ^ 15) xs → Each1 (SFits w32) xs
lanes_fit_32 xs h = Each1-weaker (λ z. unsigned_abs z ≤ 2 ^ 31 - 2 ^ 15) (SFits w32) fits_32 xs h

pub zipped_fit : (xs ys : List ℤ) → AreWithin (2 ^ 31 - 2 ^ 15) (zip2 (λ x y. x +ℤ y) xs ys) → Each2 (λ x y. SFits w32 (x +ℤ y)) xs ys
zipped_fit [] ys h = tt
zipped_fit (x ∷ xs) [] h = tt
zipped_fit (x ∷ xs) (y ∷ ys) h = (fits_32 (x +ℤ y) h.0, zipped_fit xs ys h.1)

-- the distances of the first so many taps
abbrev first : List ℤ → ℕ → ℕ
first h zero = 0
first h (suc j) = first h j + unsigned_abs (item h j)

none_first : (j : ℕ) → first [] j ≡ 0
none_first zero = refl
none_first (suc j) = ap (λ n. n + 0) (none_first j)

first_shift : (a : ℤ) (h : List ℤ) (j : ℕ) → first (a ∷ h) (suc j) ≡ unsigned_abs a + first h j
first_shift a h zero = omega arith
first_shift a h (suc j) = let e = first_shift a h j in omega (arith, e)

first_le : (h : List ℤ) (j : ℕ) → first h j ≤ weight h
first_le [] j = omega (arith, none_first j)
first_le (a ∷ h) zero = omega arith
first_le (a ∷ h) (suc j) = let w : weight (a ∷ h) ≡ unsigned_abs a + weight h = sum_by-cons unsigned_abs a h in omega (arith, w, first_shift a h j, first_le h j)

-- two neighbouring taps
pub two_light : (h : List ℤ) (j : ℕ) → unsigned_abs (item h j) + unsigned_abs (item h (j + 1)) ≤ weight h
two_light h j =
    let e : j + 1 ≡ suc j = omega arith in
    let l : first h j + unsigned_abs (item h j) + unsigned_abs (item h (suc j)) ≤ weight h = first_le h (suc (suc j)) in
    subst (λ i. unsigned_abs (item h j) + unsigned_abs (item h i) ≤ weight h) (sym e) (omega (arith, l))

short_item : (x : List ℤ) → AreItems Short x → (n : ℕ) → unsigned_abs (item x n) ≤ 2 ^ 15
short_item x range n = elim (cases_lt n (length x)) [
  | inl lt ↦ short_near (item x n) (range n (pos 0) lt)
  | inr ge ↦ subst (λ z. unsigned_abs z ≤ 2 ^ 15) (sym (get_or_past x n (pos 0) ge)) (omega arith)
]

product_near : (a b : ℤ) → unsigned_abs b ≤ 2 ^ 15 → unsigned_abs (a *ℤ b) ≤ unsigned_abs a * 2 ^ 15
product_near a b h = let m : unsigned_abs a * unsigned_abs b ≤ unsigned_abs a * 2 ^ 15 = mul-le-mul_left (unsigned_abs a) h in omega (arith, unsigned_abs-mul a b, m)

sums_near : (h : List ℤ) (g : ℕ → ℤ) → ((i : ℕ) → unsigned_abs (g i) ≤ 2 ^ 15) → (j : ℕ) → unsigned_abs (sum_below j (λ i. item h i *ℤ g i)) ≤ first h j * 2 ^ 15
sums_near h g near zero = omega arith
sums_near h g near (suc j) =
    let f = λ (i : ℕ). item h i *ℤ g i in
    let s : suc j ≡ j + 1 = omega arith in
    let e : sum_below (suc j) f ≡ sum_below j f +ℤ f j = ap (λ k. sum_below k f) s ∙ sum_more j f in
    rw e (omega (arith, abs_add (sum_below j f) (f j), sums_near h g near j, product_near (item h j) (g j) (near j)))

module _ (h x : List ℤ) (light : weight h < 2 ^ 16) (range : AreItems Short x) where
  tap_near : (j n : ℕ) → unsigned_abs (tap_sum h x j n) ≤ 2 ^ 31 - 2 ^ 15
  tap_near j n =
      let s = sums_near h (λ i. item x (n + length h - 1 - i)) (λ i. short_item x range (n + length h - 1 - i)) j in
      omega (arith, s, first_le h j)

  pub spread_near : (j at : ℕ) → AreWithin (2 ^ 31 - 2 ^ 15) (spread_sums h x j at)
  spread_near j at = (tap_near j at, (tap_near j (at + 2), (tap_near j (at + 4), (tap_near j (at + 6), (tap_near j (at + 8), (tap_near j (at + 10), (tap_near j (at + 12), (tap_near j (at + 14), tt))))))))

  -- the same of lanes that were bits in between
  pub spread_back : (j at : ℕ) (sums : List ℤ) → sums ≡ spread_sums h x j at → map (to_z w32) (map (of_z w32) sums) ≡ spread_sums h x j at
  spread_back j at sums is = back w32 sums (lanes_fit_32 sums (subst (AreWithin (2 ^ 31 - 2 ^ 15)) (sym is) (spread_near j at))) ∙ is

  pub spread_again : (j at : ℕ) (sums : List ℤ) → sums ≡ spread_sums h x j at → AreWithin (2 ^ 31 - 2 ^ 15) (map (to_z w32) (map (of_z w32) sums))
  spread_again j at sums is = subst (AreWithin (2 ^ 31 - 2 ^ 15)) (sym (spread_back j at sums is)) (spread_near j at)

-- ---- two more taps

-- item k of what is left is met by output n
lane_more : (h x : List ℤ) (j from n k : ℕ) → j + 1 < length h → from + k ≡ n + (length h - 2 - j)
    → tap_sum h x j n +ℤ ((item h (j + 1) *ℤ item (drop from x) k) +ℤ (item h j *ℤ item (drop from x) (k + 1))) ≡ tap_sum h x (j + 2) n
lane_more h x j from n k lt e =
    let f = λ (i : ℕ). item h i *ℤ item x (n + length h - 1 - i) in
    let here : from + k ≡ n + length h - 1 - (j + 1) = omega arith in
    let next : from + (k + 1) ≡ n + length h - 1 - j = omega arith in
    let p : item (drop from x) k ≡ item x (n + length h - 1 - (j + 1)) = get_or-drop from x k (pos 0) ∙ ap (item x) here in
    let q : item (drop from x) (k + 1) ≡ item x (n + length h - 1 - j) = get_or-drop from x (k + 1) (pos 0) ∙ ap (item x) next in
    let t : j + 2 ≡ j + 1 + 1 = omega arith in
    let sum : sum_below (j + 2) f ≡ (sum_below j f +ℤ f j) +ℤ f (j + 1) = ap (λ i. sum_below i f) t ∙ sum_more (j + 1) f ∙ ap (λ z. z +ℤ f (j + 1)) (sum_more j f) in
    (λ i. tap_sum h x j n +ℤ ((item h (j + 1) *ℤ p i) +ℤ (item h j *ℤ q i))) ∙ swapped (sum_below j f) (f (j + 1)) (f j) ∙ sym sum
  where
    swapped : (s p q : ℤ) → s +ℤ (p +ℤ q) ≡ (s +ℤ q) +ℤ p
    swapped s p q = omega (arith, ints)

pub spread_more : (h x : List ℤ) (j from at : ℕ) → j + 1 < length h → from ≡ at + (length h - 2 - j)
    → zip2 (λ a b. a +ℤ b) (spread_sums h x j at) (paired (item h (j + 1)) (item h j) (drop from x)) ≡ spread_sums h x (j + 2) at
spread_more h x j from at lt e =
    let a' = lane_more h x j from at 0 lt (omega arith) in
    let b' = lane_more h x j from (at + 2) 2 lt (omega arith) in
    let c' = lane_more h x j from (at + 4) 4 lt (omega arith) in
    let d' = lane_more h x j from (at + 6) 6 lt (omega arith) in
    let e' = lane_more h x j from (at + 8) 8 lt (omega arith) in
    let f' = lane_more h x j from (at + 10) 10 lt (omega arith) in
    let g' = lane_more h x j from (at + 12) 12 lt (omega arith) in
    let h' = lane_more h x j from (at + 14) 14 lt (omega arith) in
    λ i. a' i ∷ b' i ∷ c' i ∷ d' i ∷ e' i ∷ f' i ∷ g' i ∷ h' i ∷ []

-- lanes of 32 bits that hold the sums of the first j taps, and the products that make them those of the first k
module _ (h x : List ℤ) (light : weight h < 2 ^ 16) (range : AreItems Short x) (j k at : ℕ) (sums prods : List ℤ) (is : sums ≡ spread_sums h x j at)
    (near : AreWithin (2 ^ 31 - 2 ^ 15) prods) (more : zip2 (λ a b. a +ℤ b) sums prods ≡ spread_sums h x k at) where
  sums_back : map (to_z w32) (map (of_z w32) sums) ≡ sums
  sums_back = back w32 sums (lanes_fit_32 sums (subst (AreWithin (2 ^ 31 - 2 ^ 15)) (sym is) (spread_near h x light range j at)))

  prods_back : map (to_z w32) (map (of_z w32) prods) ≡ prods
  prods_back = back w32 prods (lanes_fit_32 prods near)

  both : zip2 (λ a b. a +ℤ b) (map (to_z w32) (map (of_z w32) sums)) (map (to_z w32) (map (of_z w32) prods)) ≡ spread_sums h x k at
  both = (λ i. zip2 (λ a b. a +ℤ b) (sums_back i) (prods_back i)) ∙ more

  pub step_left : AreWithin (2 ^ 31 - 2 ^ 15) (map (to_z w32) (map (of_z w32) sums))
  step_left = subst (AreWithin (2 ^ 31 - 2 ^ 15)) (sym (sums_back ∙ is)) (spread_near h x light range j at)

  pub step_right : AreWithin (2 ^ 31 - 2 ^ 15) (map (to_z w32) (map (of_z w32) prods))
  step_right = subst (AreWithin (2 ^ 31 - 2 ^ 15)) (sym prods_back) near

  pub step_near : AreWithin (2 ^ 31 - 2 ^ 15) (zip2 (λ a b. a +ℤ b) (map (to_z w32) (map (of_z w32) sums)) (map (to_z w32) (map (of_z w32) prods)))
  step_near = subst (AreWithin (2 ^ 31 - 2 ^ 15)) (sym both) (spread_near h x light range k at)

  pub stepped : (res : List ℤ) → res ≡ zip2 (λ a b. a +ℤ b) (map (to_z w32) (map (of_z w32) sums)) (map (to_z w32) (map (of_z w32) prods))
      → map (to_z w32) (map (of_z w32) res) ≡ spread_sums h x k at
  stepped res r =
      let n = subst (AreWithin (2 ^ 31 - 2 ^ 15)) (sym (r ∙ both)) (spread_near h x light range k at) in
      back w32 res (lanes_fit_32 res n) ∙ r ∙ both

tap_back : (h : List ℤ) → AreItems Short h → (j : ℕ) → j < length h → to_z w16 (of_z w16 (item h j)) ≡ item h j
tap_back h range j lt = to_z-of_z w16 (item h j) (short_fits (item h j) (range j (pos 0) lt))

-- the products of two more taps and the items from `from` on
pub pair_more : (h x : List ℤ) (p from at : ℕ) → p < length h / 2 → from ≡ at + (length h - 2 - 2 * p) → AreItems Short h → (sums prods : List ℤ) → sums ≡ spread_sums h x (2 * p) at
    → prods ≡ paired (to_z w16 (of_z w16 (item h (2 * p + 1)))) (to_z w16 (of_z w16 (item h (2 * p)))) (take (length x - from) (drop from x))
    → zip2 (λ a b. a +ℤ b) sums prods ≡ spread_sums h x (2 * (p + 1)) at
pair_more h x p from at lt place range sums prods is made =
    let e : 2 * p + 2 ≡ 2 * (p + 1) = omega arith in
    let a = tap_back h range (2 * p + 1) (omega arith) in
    let b = tap_back h range (2 * p) (omega arith) in
    let all : take (length x - from) (drop from x) ≡ drop from x = take_rest x from in
    ap (zip2 (λ a b. a +ℤ b) sums) (made ∙ (λ i. paired (a i) (b i) (all i)))
    ∙ ap (λ ss. zip2 (λ a b. a +ℤ b) ss (paired (item h (2 * p + 1)) (item h (2 * p)) (drop from x))) is
    ∙ spread_more h x (2 * p) from at (omega arith) place ∙ ap (λ j. spread_sums h x j at) e

-- the two taps of a turn
pub taps_light : (h : List ℤ) (p : ℕ) → p < length h / 2 → weight h < 2 ^ 16 → AreItems Short h
    → unsigned_abs (to_z w16 (of_z w16 (item h (2 * p + 1)))) + unsigned_abs (to_z w16 (of_z w16 (item h (2 * p)))) < 2 ^ 16
taps_light h p lt light range =
    let a = to_z-of_z w16 (item h (2 * p + 1)) (short_fits (item h (2 * p + 1)) (range (2 * p + 1) (pos 0) (omega arith))) in
    let b = to_z-of_z w16 (item h (2 * p)) (short_fits (item h (2 * p)) (range (2 * p) (pos 0) (omega arith))) in
    rw (a, b) (omega (arith, two_light h (2 * p)))

-- what is left of items in range
pub left_in_range : (x : List ℤ) (from : ℕ) → AreItems Short x → AreItems Short (take (length x - from) (drop from x))
left_in_range x from range = All-take (IsItem Short) (length x - from) (drop from x) (All-drop (IsItem Short) from x range)

-- ---- two taps times two neighbouring items

abbrev even_lanes : List ℕ → List ℕ
even_lanes us = pick_l 0 (us ++ us) (0 ∷ 2 ∷ 4 ∷ 6 ∷ 8 ∷ 10 ∷ 12 ∷ 14 ∷ [])

abbrev odd_lanes : List ℕ → List ℕ
odd_lanes us = pick_l 0 (us ++ us) (1 ∷ 3 ∷ 5 ∷ 7 ∷ 9 ∷ 11 ∷ 13 ∷ 15 ∷ [])

pub sixteen_listed : (xs : List ℤ) → 16 ≤ length xs → take 16 xs ≡ item xs 0 ∷ item xs 1 ∷ item xs 2 ∷ item xs 3 ∷ item xs 4 ∷ item xs 5 ∷ item xs 6 ∷ item xs 7 ∷ item xs 8 ∷ item xs 9 ∷ item xs 10 ∷ item xs 11 ∷ item xs 12 ∷ item xs 13 ∷ item xs 14 ∷ item xs 15 ∷ []
sixteen_listed (x0 ∷ x1 ∷ x2 ∷ x3 ∷ x4 ∷ x5 ∷ x6 ∷ x7 ∷ x8 ∷ x9 ∷ x10 ∷ x11 ∷ x12 ∷ x13 ∷ x14 ∷ x15 ∷ xs) le = refl
sixteen_listed [] le = absurd (omega arith)
sixteen_listed (x0 ∷ []) le = absurd (omega arith)
sixteen_listed (x0 ∷ x1 ∷ []) le = absurd (omega arith)
sixteen_listed (x0 ∷ x1 ∷ x2 ∷ []) le = absurd (omega arith)
sixteen_listed (x0 ∷ x1 ∷ x2 ∷ x3 ∷ []) le = absurd (omega arith)
sixteen_listed (x0 ∷ x1 ∷ x2 ∷ x3 ∷ x4 ∷ []) le = absurd (omega arith)
sixteen_listed (x0 ∷ x1 ∷ x2 ∷ x3 ∷ x4 ∷ x5 ∷ []) le = absurd (omega arith)
sixteen_listed (x0 ∷ x1 ∷ x2 ∷ x3 ∷ x4 ∷ x5 ∷ x6 ∷ []) le = absurd (omega arith)
sixteen_listed (x0 ∷ x1 ∷ x2 ∷ x3 ∷ x4 ∷ x5 ∷ x6 ∷ x7 ∷ []) le = absurd (omega arith)
sixteen_listed (x0 ∷ x1 ∷ x2 ∷ x3 ∷ x4 ∷ x5 ∷ x6 ∷ x7 ∷ x8 ∷ []) le = absurd (omega arith)
sixteen_listed (x0 ∷ x1 ∷ x2 ∷ x3 ∷ x4 ∷ x5 ∷ x6 ∷ x7 ∷ x8 ∷ x9 ∷ []) le = absurd (omega arith)
sixteen_listed (x0 ∷ x1 ∷ x2 ∷ x3 ∷ x4 ∷ x5 ∷ x6 ∷ x7 ∷ x8 ∷ x9 ∷ x10 ∷ []) le = absurd (omega arith)
sixteen_listed (x0 ∷ x1 ∷ x2 ∷ x3 ∷ x4 ∷ x5 ∷ x6 ∷ x7 ∷ x8 ∷ x9 ∷ x10 ∷ x11 ∷ []) le = absurd (omega arith)
sixteen_listed (x0 ∷ x1 ∷ x2 ∷ x3 ∷ x4 ∷ x5 ∷ x6 ∷ x7 ∷ x8 ∷ x9 ∷ x10 ∷ x11 ∷ x12 ∷ []) le = absurd (omega arith)
sixteen_listed (x0 ∷ x1 ∷ x2 ∷ x3 ∷ x4 ∷ x5 ∷ x6 ∷ x7 ∷ x8 ∷ x9 ∷ x10 ∷ x11 ∷ x12 ∷ x13 ∷ []) le = absurd (omega arith)
sixteen_listed (x0 ∷ x1 ∷ x2 ∷ x3 ∷ x4 ∷ x5 ∷ x6 ∷ x7 ∷ x8 ∷ x9 ∷ x10 ∷ x11 ∷ x12 ∷ x13 ∷ x14 ∷ []) le = absurd (omega arith)

known_32 : (xs : List ℤ) → Each1 (SFits w16) xs → Known w16 w32 (2 ^ 15) xs
known_32 xs h =
    record {
      own = h;
      wide = Each1-weaker (SFits w16) (SFits w32) (λ z f. fits_signed_from_abs w32 z (omega (arith, abs_short z f))) xs h;
      near = Each1-weaker (SFits w16) (λ z. unsigned_abs z ≤ 2 ^ 15) abs_short xs h;
    }

module _ (a b : ℤ) (x : List ℤ) (fa : SFits w16 a) (fb : SFits w16 b) (light : unsigned_abs a + unsigned_abs b < 2 ^ 16) (range : AreItems Short x) (room : 16 ≤ length x) where
  abbrev taps : List ℤ
  taps = a ∷ b ∷ a ∷ b ∷ a ∷ b ∷ a ∷ b ∷ a ∷ b ∷ a ∷ b ∷ a ∷ b ∷ a ∷ b ∷ []

  pub taps_known : Known w16 w32 (2 ^ 15) taps
  taps_known = known_32 taps (fa, (fb, (fa, (fb, (fa, (fb, (fa, (fb, (fa, (fb, (fa, (fb, (fa, (fb, (fa, (fb, tt))))))))))))))))

  pub items_known : Known w16 w32 (2 ^ 15) (take 16 x)
  items_known = known_32 (take 16 x) (Each1-weaker (IsItem Short) (SFits w16) short_fits (take 16 x) (each (IsItem Short) (pos 0) (take 16 x) (All-take (IsItem Short) 16 x range)))

  abbrev lanes : List ℕ
  lanes = multiplied w16 w16 w32 taps (take 16 x)

  abbrev firsts : List ℤ
  firsts = map (λ k. a *ℤ item x k) (0 ∷ 2 ∷ 4 ∷ 6 ∷ 8 ∷ 10 ∷ 12 ∷ 14 ∷ [])

  abbrev seconds : List ℤ
  seconds = map (λ k. b *ℤ item x (k + 1)) (0 ∷ 2 ∷ 4 ∷ 6 ∷ 8 ∷ 10 ∷ 12 ∷ 14 ∷ [])

  lanes_are : lanes ≡ map (of_z w32) (zip2 (λ p q. p *ℤ q) taps (item x 0 ∷ item x 1 ∷ item x 2 ∷ item x 3 ∷ item x 4 ∷ item x 5 ∷ item x 6 ∷ item x 7 ∷ item x 8 ∷ item x 9 ∷ item x 10 ∷ item x 11 ∷ item x 12 ∷ item x 13 ∷ item x 14 ∷ item x 15 ∷ []))
  lanes_are =
      product_is w16 w16 w32 (2 ^ 15) (2 ^ 15) taps (take 16 x) taps_known items_known (omega arith)
      ∙ ap (λ ys. map (of_z w32) (zip2 (λ p q. p *ℤ q) taps ys)) (sixteen_listed x room)

  near_a : (k : ℕ) → unsigned_abs (a *ℤ item x k) ≤ unsigned_abs a * 2 ^ 15
  near_a k = product_near a (item x k) (short_item x range k)

  near_b : (k : ℕ) → unsigned_abs (b *ℤ item x k) ≤ unsigned_abs b * 2 ^ 15
  near_b k = product_near b (item x k) (short_item x range k)

  fits_a : (k : ℕ) → SFits w32 (a *ℤ item x k)
  fits_a k = fits_32 (a *ℤ item x k) (omega (arith, near_a k))

  fits_b : (k : ℕ) → SFits w32 (b *ℤ item x k)
  fits_b k = fits_32 (b *ℤ item x k) (omega (arith, near_b k))

  both_near : (k m : ℕ) → unsigned_abs ((a *ℤ item x k) +ℤ (b *ℤ item x m)) ≤ 2 ^ 31 - 2 ^ 15
  both_near k m = omega (arith, abs_add (a *ℤ item x k) (b *ℤ item x m), near_a k, near_b m)

  firsts_fit : Each1 (SFits w32) firsts
  firsts_fit = (fits_a 0, (fits_a 2, (fits_a 4, (fits_a 6, (fits_a 8, (fits_a 10, (fits_a 12, (fits_a 14, tt))))))))

  seconds_fit : Each1 (SFits w32) seconds
  seconds_fit = (fits_b 1, (fits_b 3, (fits_b 5, (fits_b 7, (fits_b 9, (fits_b 11, (fits_b 13, (fits_b 15, tt))))))))

  pub paired_near : AreWithin (2 ^ 31 - 2 ^ 15) (paired a b x)
  paired_near = (both_near 0 1, (both_near 2 3, (both_near 4 5, (both_near 6 7, (both_near 8 9, (both_near 10 11, (both_near 12 13, (both_near 14 15, tt))))))))

  both_fit : Each2 (λ p q. SFits w32 (p +ℤ q)) firsts seconds
  both_fit = (fits_32 ((a *ℤ item x 0) +ℤ (b *ℤ item x 1)) (both_near 0 1), (fits_32 ((a *ℤ item x 2) +ℤ (b *ℤ item x 3)) (both_near 2 3), (fits_32 ((a *ℤ item x 4) +ℤ (b *ℤ item x 5)) (both_near 4 5), (fits_32 ((a *ℤ item x 6) +ℤ (b *ℤ item x 7)) (both_near 6 7), (fits_32 ((a *ℤ item x 8) +ℤ (b *ℤ item x 9)) (both_near 8 9), (fits_32 ((a *ℤ item x 10) +ℤ (b *ℤ item x 11)) (both_near 10 11), (fits_32 ((a *ℤ item x 12) +ℤ (b *ℤ item x 13)) (both_near 12 13), (fits_32 ((a *ℤ item x 14) +ℤ (b *ℤ item x 15)) (both_near 14 15), tt))))))))

  pub paired_asks : Each2 (Asks2 (add signed) (s_int w32) (s_int w32)) (even_lanes lanes) (odd_lanes lanes)
  paired_asks =
      subst (λ us. Each2 (Asks2 (add signed) (s_int w32) (s_int w32)) (even_lanes us) (odd_lanes us)) (sym lanes_are)
      (add_asks w32 firsts seconds firsts_fit seconds_fit both_fit)

  pub paired_is : map (to_z w32) (zip2 (act2 (add signed) (s_int w32) (s_int w32) (s_int w32)) (even_lanes lanes) (odd_lanes lanes)) ≡ paired a b x
  paired_is =
      ap (λ us. map (to_z w32) (zip2 (act2 (add signed) (s_int w32) (s_int w32) (s_int w32)) (even_lanes us) (odd_lanes us))) lanes_are
      ∙ ap (map (to_z w32)) (add_is w32 firsts seconds firsts_fit seconds_fit) ∙ back w32 (paired a b x) (lanes_fit_32 (paired a b x) paired_near)

-- ---- the last of an odd number of taps

first_more : (h x : List ℤ) (j from n k : ℕ) → from + k ≡ n + length h - 1 - j
    → tap_sum h x j n +ℤ ((item h j *ℤ item (drop from x) k) +ℤ (pos 0 *ℤ item (drop from x) (k + 1))) ≡ tap_sum h x (j + 1) n
first_more h x j from n k e =
    let p : item (drop from x) k ≡ item x (n + length h - 1 - j) = get_or-drop from x k (pos 0) ∙ ap (item x) e in
    (λ i. tap_sum h x j n +ℤ ((item h j *ℤ p i) +ℤ (pos 0 *ℤ item (drop from x) (k + 1))))
    ∙ alone (tap_sum h x j n) (item h j *ℤ item x (n + length h - 1 - j)) (item (drop from x) (k + 1))
    ∙ sym (sum_more j (λ i. item h i *ℤ item x (n + length h - 1 - i)))
  where
    alone : (s p q : ℤ) → s +ℤ (p +ℤ (pos 0 *ℤ q)) ≡ s +ℤ p
    alone s p q = omega (arith, ints)

second_more : (h x : List ℤ) (j from n k : ℕ) → from + k + 1 ≡ n + length h - 1 - j
    → tap_sum h x j n +ℤ ((pos 0 *ℤ item (drop from x) k) +ℤ (item h j *ℤ item (drop from x) (k + 1))) ≡ tap_sum h x (j + 1) n
second_more h x j from n k e =
    let here : from + (k + 1) ≡ n + length h - 1 - j = omega arith in
    let p : item (drop from x) (k + 1) ≡ item x (n + length h - 1 - j) = get_or-drop from x (k + 1) (pos 0) ∙ ap (item x) here in
    (λ i. tap_sum h x j n +ℤ ((pos 0 *ℤ item (drop from x) k) +ℤ (item h j *ℤ p i)))
    ∙ alone (tap_sum h x j n) (item h j *ℤ item x (n + length h - 1 - j)) (item (drop from x) k)
    ∙ sym (sum_more j (λ i. item h i *ℤ item x (n + length h - 1 - i)))
  where
    alone : (s p q : ℤ) → s +ℤ ((pos 0 *ℤ q) +ℤ p) ≡ s +ℤ p
    alone s p q = omega (arith, ints)

firsts_more : (h x : List ℤ) (j at : ℕ) → j + 1 ≡ length h
    → zip2 (λ a b. a +ℤ b) (spread_sums h x j at) (paired (item h j) (pos 0) (drop at x)) ≡ spread_sums h x (j + 1) at
firsts_more h x j at e =
    let a' = first_more h x j at at 0 (omega arith) in
    let b' = first_more h x j at (at + 2) 2 (omega arith) in
    let c' = first_more h x j at (at + 4) 4 (omega arith) in
    let d' = first_more h x j at (at + 6) 6 (omega arith) in
    let e' = first_more h x j at (at + 8) 8 (omega arith) in
    let f' = first_more h x j at (at + 10) 10 (omega arith) in
    let g' = first_more h x j at (at + 12) 12 (omega arith) in
    let h' = first_more h x j at (at + 14) 14 (omega arith) in
    λ i. a' i ∷ b' i ∷ c' i ∷ d' i ∷ e' i ∷ f' i ∷ g' i ∷ h' i ∷ []

seconds_more : (h x : List ℤ) (j at : ℕ) → j + 1 ≡ length h
    → zip2 (λ a b. a +ℤ b) (spread_sums h x j (at + 1)) (paired (pos 0) (item h j) (drop at x)) ≡ spread_sums h x (j + 1) (at + 1)
seconds_more h x j at e =
    let a' = second_more h x j at (at + 1) 0 (omega arith) in
    let b' = second_more h x j at (at + 1 + 2) 2 (omega arith) in
    let c' = second_more h x j at (at + 1 + 4) 4 (omega arith) in
    let d' = second_more h x j at (at + 1 + 6) 6 (omega arith) in
    let e' = second_more h x j at (at + 1 + 8) 8 (omega arith) in
    let f' = second_more h x j at (at + 1 + 10) 10 (omega arith) in
    let g' = second_more h x j at (at + 1 + 12) 12 (omega arith) in
    let h' = second_more h x j at (at + 1 + 14) 14 (omega arith) in
    λ i. a' i ∷ b' i ∷ c' i ∷ d' i ∷ e' i ∷ f' i ∷ g' i ∷ h' i ∷ []

-- the products of the last tap, at the outputs from `at` on and at those between
pub last_more : (h x : List ℤ) (at : ℕ) → 1 ≤ length h → AreItems Short h → (sums prods : List ℤ) → sums ≡ spread_sums h x (length h - 1) at
    → prods ≡ paired (to_z w16 (of_z w16 (item h (length h - 1)))) (pos 0) (take (length x - at) (drop at x))
    → zip2 (λ a b. a +ℤ b) sums prods ≡ spread_sums h x (length h) at
last_more h x at some range sums prods is made =
    let e : length h - 1 + 1 ≡ length h = omega arith in
    let a = tap_back h range (length h - 1) (omega arith) in
    let all : take (length x - at) (drop at x) ≡ drop at x = take_rest x at in
    ap (zip2 (λ a b. a +ℤ b) sums) (made ∙ (λ i. paired (a i) (pos 0) (all i)))
    ∙ ap (λ ss. zip2 (λ a b. a +ℤ b) ss (paired (item h (length h - 1)) (pos 0) (drop at x))) is
    ∙ firsts_more h x (length h - 1) at e ∙ ap (λ j. spread_sums h x j at) e

pub last_between : (h x : List ℤ) (at : ℕ) → 1 ≤ length h → AreItems Short h → (sums prods : List ℤ) → sums ≡ spread_sums h x (length h - 1) (at + 1)
    → prods ≡ paired (pos 0) (to_z w16 (of_z w16 (item h (length h - 1)))) (take (length x - at) (drop at x))
    → zip2 (λ a b. a +ℤ b) sums prods ≡ spread_sums h x (length h) (at + 1)
last_between h x at some range sums prods is made =
    let e : length h - 1 + 1 ≡ length h = omega arith in
    let a = tap_back h range (length h - 1) (omega arith) in
    let all : take (length x - at) (drop at x) ≡ drop at x = take_rest x at in
    ap (zip2 (λ a b. a +ℤ b) sums) (made ∙ (λ i. paired (pos 0) (a i) (all i)))
    ∙ ap (λ ss. zip2 (λ a b. a +ℤ b) ss (paired (pos 0) (item h (length h - 1)) (drop at x))) is
    ∙ seconds_more h x (length h - 1) at e ∙ ap (λ j. spread_sums h x j (at + 1)) e

pub map_self : (xs : List ℤ) → map (λ (z : ℤ). z) xs ≡ xs
map_self [] = refl
map_self (x ∷ xs) = ap (λ ys. x ∷ ys) (map_self xs)
