-- Taps that are split into a high half and a low one, and the sums of each.
use Rattle.std.proofs.Common.{◌≡◌, ℕ, zero, suc, ◌+◌, ◌-◌, ◌*◌, ◌<◌, ◌≤◌, ◌^◌, List, [], ◌∷◌, map, set, length, take, replicate, refl, ap, sym, subst, ◌∙◌, arith, All, w16, w32, w64, ℤ, pos, negsuc, ◌+ℤ◌, ◌-ℤ◌, ◌*ℤ◌, ◌≤ℤ◌, ◌<ℤ◌, inl, inr}
use lib.Lanes.{zip2, Each1, Each2}
use mir.Syntax.{cast, mul, signed}
use mir.Val.{SFits, to_z, of_z}
use borrow.Table.Row.{s_int}
use borrow.Rule.Simd.Lanes.{act1, act2, Asks1, Asks2}
use Rattle.std.specs.Int.RustNames.{unsigned_abs}
use Rattle.std.proofs.Math.IntN.{*ℤ_comm, pred_ℤ-*ℤ, suc_ℤ-*ℤ, zero-*ℤ}
use Rattle.std.proofs.lemmas.Int.{ints, fits_signed_from_abs, to_z-of_z, unsigned_abs-mul}
use Rattle.std.proofs.lemmas.Bool.{cases_eq}
use Rattle.std.proofs.lemmas.List.{get_or-take, get_or-set_same, get_or-set_other, length-take-le}
use Rattle.std.proofs.lemmas.List.Sums.{sum_by-le}
use Rattle.std.proofs.lemmas.List.Elements.{All-from_get_or, All-weaker}
use Rattle.std.proofs.lemmas.Simd.{Each1-replicate, zip2_splat_left}
use Rattle.stream_model.specs.Lists.{sum_below, item}
use Rattle.stream_model.specs.Numbers.{IsItem, AreItems, floor_div, rnd}
use Rattle.stream_model.specs.declared.vocabulary.ItemType.TheVariants.{Short}
use Rattle.numbers.proofs.Widths.{cast_asks}
use Rattle.lane_filters.specs.Words.{AreHalves, AreHalvesOf, AreWithin, spread_sums, tap_sum, weight}
use Rattle.lane_filters.proofs.Lists.{sum_more}
use Rattle.lane_filters.proofs.NarrowSums.{lanes_fit_32, spread_back}
use Rattle.lane_filters.proofs.Signed.{back, cast_is, fits_near, lanes_fit, mul_asks, mul_is, near_again, nearer, products_fit, products_within, sums_within}

-- ---- one tap

floor_ends : (y : ℤ) → ((pos 256 *ℤ floor_div y 256) ≤ℤ y) × (y <ℤ ((pos 256 *ℤ floor_div y 256) +ℤ pos 256))
floor_ends (pos n) = (omega (arith, ints), omega (arith, ints))
floor_ends (negsuc n) = (omega (arith, ints), omega (arith, ints))

pub high_near : (z q : ℤ) → unsigned_abs z ≤ 2 ^ 15 → q ≡ rnd z 8 → unsigned_abs q ≤ 128
high_near z q near e =
    let ends : ((pos 256 *ℤ q) ≤ℤ (z +ℤ pos 128)) × ((z +ℤ pos 128) <ℤ ((pos 256 *ℤ q) +ℤ pos 256)) =
    subst (λ k. ((pos 256 *ℤ k) ≤ℤ (z +ℤ pos 128)) × ((z +ℤ pos 128) <ℤ ((pos 256 *ℤ k) +ℤ pos 256))) (sym e) (floor_ends (z +ℤ pos 128)) in
    omega (arith, ints, near, ends.0, ends.1)

pub low_near : (z q : ℤ) → unsigned_abs z ≤ 2 ^ 15 → q ≡ rnd z 8 → unsigned_abs (z -ℤ (pos 256 *ℤ q)) ≤ 128
low_near z q near e =
    let ends : ((pos 256 *ℤ q) ≤ℤ (z +ℤ pos 128)) × ((z +ℤ pos 128) <ℤ ((pos 256 *ℤ q) +ℤ pos 256)) =
    subst (λ k. ((pos 256 *ℤ k) ≤ℤ (z +ℤ pos 128)) × ((z +ℤ pos 128) <ℤ ((pos 256 *ℤ k) +ℤ pos 256))) (sym e) (floor_ends (z +ℤ pos 128)) in
    omega (arith, ints, ends.0, ends.1)

pub halves_are : (z q r : ℤ) → unsigned_abs z ≤ 2 ^ 15 → q ≡ rnd z 8 → r ≡ z -ℤ (pos 256 *ℤ q) → AreHalvesOf z q r
halves_are z q r near e f = (omega (arith, ints, f), high_near z q near e, subst (λ k. unsigned_abs k ≤ 128) (sym f) (low_near z q near e))

replaced : (tap a b a' b' : ℤ) → a ≡ a' → b ≡ b' → AreHalvesOf tap a b → AreHalvesOf tap a' b'
replaced tap a b a' b' e f h = subst (λ k. AreHalvesOf tap a' k) f (subst (λ k. AreHalvesOf tap k b) e h)

-- the same of numbers that were bits in between
pub halves_back : (z t q : ℤ) → unsigned_abs z ≤ 2 ^ 15 → to_z w64 (of_z w64 t) ≡ z → to_z w64 (of_z w64 q) ≡ q → q ≡ rnd z 8
    → AreHalvesOf z (to_z w16 (of_z w16 (to_z w64 (of_z w64 q)))) (to_z w16 (of_z w16 (to_z w64 (of_z w64 (to_z w64 (of_z w64 t) -ℤ to_z w64 (of_z w64 (pos 256 *ℤ to_z w64 (of_z w64 q))))))))
halves_back z t q near bt bq e =
    let r = z -ℤ (pos 256 *ℤ q) in
    let high = high_near z q near e in
    let low = low_near z q near e in
    let size : unsigned_abs (pos 256 *ℤ q) ≡ 256 * unsigned_abs q = unsigned_abs-mul (pos 256) q in
    let times : to_z w64 (of_z w64 (pos 256 *ℤ to_z w64 (of_z w64 q))) ≡ pos 256 *ℤ q =
    ap (λ k. to_z w64 (of_z w64 (pos 256 *ℤ k))) bq ∙ to_z-of_z w64 (pos 256 *ℤ q) (fits_near (pos 256 *ℤ q) (omega (arith, size, high))) in
    let upper : to_z w16 (of_z w16 (to_z w64 (of_z w64 q))) ≡ q = ap (λ k. to_z w16 (of_z w16 k)) bq ∙ to_z-of_z w16 q (fits_signed_from_abs w16 q (omega (arith, high))) in
    let rest : to_z w64 (of_z w64 t) -ℤ to_z w64 (of_z w64 (pos 256 *ℤ to_z w64 (of_z w64 q))) ≡ r = (λ i. bt i -ℤ times i) in
    let lower : to_z w16 (of_z w16 (to_z w64 (of_z w64 (to_z w64 (of_z w64 t) -ℤ to_z w64 (of_z w64 (pos 256 *ℤ to_z w64 (of_z w64 q))))))) ≡ r =
    ap (λ k. to_z w16 (of_z w16 (to_z w64 (of_z w64 k)))) rest ∙ ap (λ k. to_z w16 (of_z w16 k)) (to_z-of_z w64 r (fits_near r (omega (arith, low))))
    ∙ to_z-of_z w16 r (fits_signed_from_abs w16 r (omega (arith, low))) in
    replaced z q r (to_z w16 (of_z w16 (to_z w64 (of_z w64 q)))) (to_z w16 (of_z w16 (to_z w64 (of_z w64 (to_z w64 (of_z w64 t) -ℤ to_z w64 (of_z w64 (pos 256 *ℤ to_z w64 (of_z w64 q))))))))
    (sym upper) (sym lower) (halves_are z q r near e refl)

pub halves_again : (tap a b : ℤ) → SFits w16 tap → AreHalvesOf (to_z w16 (of_z w16 tap)) a b → AreHalvesOf tap (to_z w16 (of_z w16 a)) (to_z w16 (of_z w16 b))
halves_again tap a b fits h =
    let upper : to_z w16 (of_z w16 a) ≡ a = to_z-of_z w16 a (fits_signed_from_abs w16 a (omega (arith, h.1))) in
    let lower : to_z w16 (of_z w16 b) ≡ b = to_z-of_z w16 b (fits_signed_from_abs w16 b (omega (arith, h.2))) in
    subst (λ k. AreHalvesOf k (to_z w16 (of_z w16 a)) (to_z w16 (of_z w16 b))) (to_z-of_z w16 tap fits)
    (replaced (to_z w16 (of_z w16 tap)) a b (to_z w16 (of_z w16 a)) (to_z w16 (of_z w16 b)) (sym upper) (sym lower) h)

-- the halves of one more tap are stored
pub halves_more : (h high low : List ℤ) (j : ℕ) (a b : ℤ) → j < length high → j < length low → ((k : ℕ) → k < j → AreHalvesOf (item h k) (item high k) (item low k))
    → AreHalvesOf (item h j) a b → (k : ℕ) → k < j + 1 → AreHalvesOf (item h k) (item (set high j a) k) (item (set low j b) k)
halves_more h high low j a b in_high in_low done one k lt = elim (cases_eq k j) [
  | inl e ↦ subst (λ n. AreHalvesOf (item h n) (item (set high j a) n) (item (set low j b) n)) (sym e)
      (replaced (item h j) a b (item (set high j a) j) (item (set low j b) j) (sym (get_or-set_same high j a (pos 0) in_high)) (sym (get_or-set_same low j b (pos 0) in_low)) one)
  | inr ne ↦ replaced (item h k) (item high k) (item low k) (item (set high j a) k) (item (set low j b) k)
      (sym (get_or-set_other high j k a (pos 0) ne)) (sym (get_or-set_other low j k b (pos 0) ne)) (done k (omega (arith, ne)))
]

-- ---- products of sums

regrouped : (p q m k : ℤ) → (p +ℤ q) +ℤ (m +ℤ k) ≡ (p +ℤ m) +ℤ (q +ℤ k)
regrouped p q m k = omega (arith, ints)

lessened : (p q m k : ℤ) → (p +ℤ q) -ℤ (m +ℤ k) ≡ (p -ℤ m) +ℤ (q -ℤ k)
lessened p q m k = omega (arith, ints)

times_above : (n : ℕ) (m k : ℤ) → pos n *ℤ (m +ℤ k) ≡ (pos n *ℤ m) +ℤ (pos n *ℤ k)
times_above zero m k = zero-*ℤ (m +ℤ k) ∙ sym (λ i. zero-*ℤ m i +ℤ zero-*ℤ k i)
times_above (suc n) m k =
    suc_ℤ-*ℤ (pos n) (m +ℤ k) ∙ ap (λ p. p +ℤ (m +ℤ k)) (times_above n m k) ∙ regrouped (pos n *ℤ m) (pos n *ℤ k) m k
    ∙ sym (λ i. suc_ℤ-*ℤ (pos n) m i +ℤ suc_ℤ-*ℤ (pos n) k i)

times_below : (n : ℕ) (m k : ℤ) → negsuc n *ℤ (m +ℤ k) ≡ (negsuc n *ℤ m) +ℤ (negsuc n *ℤ k)
times_below zero m k =
    pred_ℤ-*ℤ (pos zero) (m +ℤ k) ∙ ap (λ p. p -ℤ (m +ℤ k)) (times_above zero m k) ∙ lessened (pos zero *ℤ m) (pos zero *ℤ k) m k
    ∙ sym (λ i. pred_ℤ-*ℤ (pos zero) m i +ℤ pred_ℤ-*ℤ (pos zero) k i)
times_below (suc n) m k =
    pred_ℤ-*ℤ (negsuc n) (m +ℤ k) ∙ ap (λ p. p -ℤ (m +ℤ k)) (times_below n m k) ∙ lessened (negsuc n *ℤ m) (negsuc n *ℤ k) m k
    ∙ sym (λ i. pred_ℤ-*ℤ (negsuc n) m i +ℤ pred_ℤ-*ℤ (negsuc n) k i)

times_sum : (z m k : ℤ) → z *ℤ (m +ℤ k) ≡ (z *ℤ m) +ℤ (z *ℤ k)
times_sum (pos n) m k = times_above n m k
times_sum (negsuc n) m k = times_below n m k

sum_times : (m k z : ℤ) → (m +ℤ k) *ℤ z ≡ (m *ℤ z) +ℤ (k *ℤ z)
sum_times m k z = *ℤ_comm (m +ℤ k) z ∙ times_sum z m k ∙ (λ i. *ℤ_comm z m i +ℤ *ℤ_comm z k i)

scaled_times : (n : ℕ) (a z : ℤ) → (pos n *ℤ a) *ℤ z ≡ pos n *ℤ (a *ℤ z)
scaled_times zero a z = ap (λ k. k *ℤ z) (zero-*ℤ a) ∙ zero-*ℤ z ∙ sym (zero-*ℤ (a *ℤ z))
scaled_times (suc n) a z =
    ap (λ k. k *ℤ z) (suc_ℤ-*ℤ (pos n) a) ∙ sum_times (pos n *ℤ a) a z ∙ ap (λ k. k +ℤ (a *ℤ z)) (scaled_times n a z) ∙ sym (suc_ℤ-*ℤ (pos n) (a *ℤ z))

-- ---- the halves of all taps

near_light : (xs : List ℤ) → All (λ z. unsigned_abs z ≤ 128) xs → length xs ≤ 256 → weight xs < 2 ^ 16
near_light xs near few = omega (arith, sum_by-le unsigned_abs 128 xs near)

near_short : (z : ℤ) → unsigned_abs z ≤ 128 → IsItem Short z
near_short z near = record { above = omega (arith, ints, near); below = omega (arith, ints, near) }

near_shorts : (xs : List ℤ) → All (λ z. unsigned_abs z ≤ 128) xs → AreItems Short xs
near_shorts xs near = All-weaker (λ z. unsigned_abs z ≤ 128) (IsItem Short) near_short xs near

module _ (h high low : List ℤ) (halves : AreHalves h high low) where
  abbrev highs : List ℤ
  highs = take (length h) high

  abbrev lows : List ℤ
  lows = take (length h) low

  pub long_high : length highs ≡ length h
  long_high = length-take-le (length h) high halves.0

  pub long_low : length lows ≡ length h
  long_low = length-take-le (length h) low halves.1

  high_at : (i : ℕ) → i < length h → item highs i ≡ item high i
  high_at i lt = get_or-take (length h) high i (pos 0) lt

  low_at : (i : ℕ) → i < length h → item lows i ≡ item low i
  low_at i lt = get_or-take (length h) low i (pos 0) lt

  highs_near : All (λ z. unsigned_abs z ≤ 128) highs
  highs_near =
      All-from_get_or (λ z. unsigned_abs z ≤ 128) highs (pos 0)
      (λ i lt. let within : i < length h = omega (arith, lt, long_high) in subst (λ z. unsigned_abs z ≤ 128) (sym (high_at i within)) (halves.2 i within).1)

  lows_near : All (λ z. unsigned_abs z ≤ 128) lows
  lows_near =
      All-from_get_or (λ z. unsigned_abs z ≤ 128) lows (pos 0)
      (λ i lt. let within : i < length h = omega (arith, lt, long_low) in subst (λ z. unsigned_abs z ≤ 128) (sym (low_at i within)) (halves.2 i within).2)

  pub highs_light : length h ≤ 256 → weight highs < 2 ^ 16
  highs_light few = near_light highs highs_near (omega (arith, long_high))

  pub lows_light : length h ≤ 256 → weight lows < 2 ^ 16
  lows_light few = near_light lows lows_near (omega (arith, long_low))

  pub highs_short : AreItems Short highs
  highs_short = near_shorts highs highs_near

  pub lows_short : AreItems Short lows
  lows_short = near_shorts lows lows_near

  times : (a b z : ℤ) → ((pos 256 *ℤ a) +ℤ b) *ℤ z ≡ (pos 256 *ℤ (a *ℤ z)) +ℤ (b *ℤ z)
  times a b z = sum_times (pos 256 *ℤ a) b z ∙ ap (λ k. k +ℤ (b *ℤ z)) (scaled_times 256 a z)

  more : (s t p q : ℤ) → (pos 256 *ℤ (s +ℤ p)) +ℤ (t +ℤ q) ≡ ((pos 256 *ℤ s) +ℤ t) +ℤ ((pos 256 *ℤ p) +ℤ q)
  more s t p q = omega (arith, ints)

  module _ (x : List ℤ) where
    product : (n c : ℕ) → c < length h
        → (pos 256 *ℤ (item highs c *ℤ item x (n + length highs - 1 - c))) +ℤ (item lows c *ℤ item x (n + length lows - 1 - c)) ≡ item h c *ℤ item x (n + length h - 1 - c)
    product n c lt =
        let z = item x (n + length h - 1 - c) in
        (λ i. (pos 256 *ℤ (high_at c lt i *ℤ item x (n + long_high i - 1 - c))) +ℤ (low_at c lt i *ℤ item x (n + long_low i - 1 - c)))
        ∙ sym (times (item high c) (item low c) z) ∙ sym (ap (λ t. t *ℤ z) (halves.2 c lt).0)

    joined_sum : (n c : ℕ) → c ≤ length h → (pos 256 *ℤ tap_sum highs x c n) +ℤ tap_sum lows x c n ≡ tap_sum h x c n
    joined_sum n zero le = refl
    joined_sum n (suc c) le =
        let f = λ (i : ℕ). item highs i *ℤ item x (n + length highs - 1 - i) in
        let g = λ (i : ℕ). item lows i *ℤ item x (n + length lows - 1 - i) in
        let t = λ (i : ℕ). item h i *ℤ item x (n + length h - 1 - i) in
        let s : suc c ≡ c + 1 = omega arith in
        let upper : sum_below (suc c) f ≡ sum_below c f +ℤ f c = ap (λ k. sum_below k f) s ∙ sum_more c f in
        let lower : sum_below (suc c) g ≡ sum_below c g +ℤ g c = ap (λ k. sum_below k g) s ∙ sum_more c g in
        let all : sum_below (suc c) t ≡ sum_below c t +ℤ t c = ap (λ k. sum_below k t) s ∙ sum_more c t in
        (λ i. (pos 256 *ℤ upper i) +ℤ lower i) ∙ more (sum_below c f) (sum_below c g) (f c) (g c)
        ∙ (λ i. joined_sum n c (omega arith) i +ℤ product n c (omega arith) i) ∙ sym all

    whole : (n : ℕ) → (pos 256 *ℤ tap_sum highs x (length highs) n) +ℤ tap_sum lows x (length lows) n ≡ tap_sum h x (length h) n
    whole n = (λ i. (pos 256 *ℤ tap_sum highs x (long_high i) n) +ℤ tap_sum lows x (long_low i) n) ∙ joined_sum n (length h) (omega arith)

    pub spread_joined : (at : ℕ) → zip2 (λ a b. (pos 256 *ℤ a) +ℤ b) (spread_sums highs x (length highs) at) (spread_sums lows x (length lows) at) ≡ spread_sums h x (length h) at
    spread_joined at =
        let a' = whole at in
        let b' = whole (at + 2) in
        let c' = whole (at + 4) in
        let d' = whole (at + 6) in
        let e' = whole (at + 8) in
        let f' = whole (at + 10) in
        let g' = whole (at + 12) in
        let h' = whole (at + 14) in
        λ i. a' i ∷ b' i ∷ c' i ∷ d' i ∷ e' i ∷ f' i ∷ g' i ∷ h' i ∷ []

    -- lanes of 32 bits that hold the sums of both
    module _ (few : length h ≤ 256) (range : AreItems Short x) where
      pub sums_joined : (at : ℕ) (hs ls res : List ℤ) → hs ≡ spread_sums highs x (length highs) at → ls ≡ spread_sums lows x (length lows) at
          → res ≡ zip2 (λ a b. (pos 256 *ℤ a) +ℤ b) (map (to_z w32) (map (of_z w32) hs)) (map (to_z w32) (map (of_z w32) ls)) → res ≡ spread_sums h x (length h) at
      sums_joined at hs ls res e f r =
          r
          ∙ (λ i. zip2 (λ a b. (pos 256 *ℤ a) +ℤ b) (spread_back highs x (highs_light few) range (length highs) at hs e i) (spread_back lows x (lows_light few) range (length lows) at ls f i))
          ∙ spread_joined at

-- ---- lanes of 32 bits that are joined in lanes of 64

joined_is : (xs ys : List ℤ) → zip2 (λ a b. a +ℤ b) (map (λ a. pos 256 *ℤ a) xs) ys ≡ zip2 (λ a b. (pos 256 *ℤ a) +ℤ b) xs ys
joined_is [] ys = refl
joined_is (x ∷ xs) [] = refl
joined_is (x ∷ xs) (y ∷ ys) = ap (λ zs. ((pos 256 *ℤ x) +ℤ y) ∷ zs) (joined_is xs ys)

module _ (xs : List ℤ) (near : AreWithin (2 ^ 31 - 2 ^ 15) xs) where
  fits_32 : Each1 (SFits w32) xs
  fits_32 = lanes_fit_32 xs near

  fits_64 : Each1 (SFits w64) xs
  fits_64 = lanes_fit xs (nearer (2 ^ 31 - 2 ^ 15) (2 ^ 62) xs (omega arith) near)

  pub widen_asks : Each1 (Asks1 (cast signed signed w64) (s_int w32)) (map (of_z w32) xs)
  widen_asks = cast_asks w32 w64 xs fits_32 fits_64

  abbrev widened : List ℕ
  widened = map (act1 (cast signed signed w64) (s_int w32) (s_int w64)) (map (of_z w32) xs)

  pub widened_is : map (to_z w64) widened ≡ xs
  widened_is = ap (map (to_z w64)) (cast_is w32 w64 xs fits_32) ∙ back w64 xs fits_64

  pub widened_near : AreWithin (2 ^ 60) (map (to_z w64) widened)
  widened_near = subst (AreWithin (2 ^ 60)) (sym widened_is) (nearer (2 ^ 31 - 2 ^ 15) (2 ^ 60) xs (omega arith) near)

  abbrev factors : List ℤ
  factors = replicate 8 (pos 256)

  factors_near : AreWithin 256 factors
  factors_near = Each1-replicate (λ z. unsigned_abs z ≤ 256) 8 (pos 256) (omega arith)

  factors_fit : Each1 (SFits w64) factors
  factors_fit = lanes_fit factors (nearer 256 (2 ^ 62) factors (omega arith) factors_near)

  products_fit_64 : Each2 (λ a b. SFits w64 (a *ℤ b)) factors xs
  products_fit_64 = products_fit w64 256 (2 ^ 31 - 2 ^ 15) (omega arith) factors xs factors_near near

  pub times_asks : Each2 (Asks2 (mul signed) (s_int w64) (s_int w64)) (map (of_z w64) factors) widened
  times_asks =
      subst (Each2 (Asks2 (mul signed) (s_int w64) (s_int w64)) (map (of_z w64) factors)) (sym (cast_is w32 w64 xs fits_32))
      (mul_asks w64 factors xs factors_fit fits_64 products_fit_64)

  products_near : AreWithin (2 ^ 39) (zip2 (λ a b. a *ℤ b) factors xs)
  products_near =
      nearer (256 * (2 ^ 31 - 2 ^ 15)) (2 ^ 39) (zip2 (λ a b. a *ℤ b) factors xs) (omega arith) (products_within 256 (2 ^ 31 - 2 ^ 15) factors xs factors_near near)

  abbrev timed : List ℤ
  timed = map (to_z w64) (zip2 (act2 (mul signed) (s_int w64) (s_int w64) (s_int w64)) (map (of_z w64) factors) widened)

  timed_are : timed ≡ zip2 (λ a b. a *ℤ b) factors xs
  timed_are =
      ap (λ us. map (to_z w64) (zip2 (act2 (mul signed) (s_int w64) (s_int w64) (s_int w64)) (map (of_z w64) factors) us)) (cast_is w32 w64 xs fits_32)
      ∙ ap (map (to_z w64)) (mul_is w64 factors xs factors_fit fits_64)
      ∙ back w64 (zip2 (λ a b. a *ℤ b) factors xs) (lanes_fit (zip2 (λ a b. a *ℤ b) factors xs) (nearer (2 ^ 39) (2 ^ 62) (zip2 (λ a b. a *ℤ b) factors xs) (omega arith) products_near))

  pub timed_is : length xs ≡ 8 → timed ≡ map (λ a. pos 256 *ℤ a) xs
  timed_is long = timed_are ∙ zip2_splat_left (λ a b. a *ℤ b) (pos 256) 8 xs long

  timed_within : AreWithin (2 ^ 39) timed
  timed_within = subst (AreWithin (2 ^ 39)) (sym timed_are) products_near

  pub timed_near : AreWithin (2 ^ 60) timed
  timed_near = nearer (2 ^ 39) (2 ^ 60) timed (omega arith) timed_within

  widened_within : AreWithin (2 ^ 31) (map (to_z w64) widened)
  widened_within = subst (AreWithin (2 ^ 31)) (sym widened_is) (nearer (2 ^ 31 - 2 ^ 15) (2 ^ 31) xs (omega arith) near)

-- the lanes of both are added
module _ (xs ys : List ℤ) (near : AreWithin (2 ^ 31 - 2 ^ 15) xs) (near' : AreWithin (2 ^ 31 - 2 ^ 15) ys) (res : List ℤ)
    (is : res ≡ zip2 (λ a b. a +ℤ b) (timed xs near) (map (to_z w64) (widened ys near'))) where
  within : AreWithin (2 ^ 60) res
  within =
      nearer (2 ^ 39 + 2 ^ 31) (2 ^ 60) res (omega arith)
      (subst (AreWithin (2 ^ 39 + 2 ^ 31)) (sym is) (sums_within (2 ^ 39) (2 ^ 31) (timed xs near) (map (to_z w64) (widened ys near')) (timed_within xs near) (widened_within ys near')))

  pub joined_near : AreWithin (2 ^ 60) (map (to_z w64) (map (of_z w64) res))
  joined_near = near_again (2 ^ 60) (2 ^ 60) res (omega arith) (omega arith) within

  pub joined_are : length xs ≡ 8 → map (to_z w64) (map (of_z w64) res) ≡ zip2 (λ a b. (pos 256 *ℤ a) +ℤ b) xs ys
  joined_are long =
      back w64 res (lanes_fit res (nearer (2 ^ 60) (2 ^ 62) res (omega arith) within)) ∙ is
      ∙ (λ i. zip2 (λ a b. a +ℤ b) (timed_is xs near long i) (widened_is ys near' i)) ∙ joined_is xs ys
