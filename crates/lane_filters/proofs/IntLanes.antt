-- Ints that are loaded by two in lanes of 64 bits, and sums of them.
use Rattle.std.proofs.Common.{◌≡◌, ℕ, zero, suc, ◌+◌, ◌-◌, ◌*◌, ◌/◌, ◌%◌, ◌^◌, ◌<◌, ◌≤◌, ◌∙◌, div-add-mod', div-lt_iff_lt-mul, pow-suc, Bool, true, false, ltb, ltb-true, ltb-false, inl, inr, refl, ap, sym, subst, arith, List, [], ◌∷◌, map, take, drop, length, replicate, ℤ, pos, negsuc, ◌+ℤ◌, ◌*ℤ◌, w16, w32, w64}
use lib.Lanes.{zip2, Each1, Each2, number_l, digits_l}
use lib.Signed.{shr_z}
use mir.Syntax.{mul, signed}
use mir.Val.{SFits, of_z, to_z}
use borrow.Table.Row.{s_int}
use borrow.Rule.Simd.Lanes.{act2, Asks2}
use Rattle.std.specs.Int.RustNames.{unsigned_abs}
use Rattle.std.proofs.lemmas.Bool.{cases_lt}
use Rattle.std.proofs.lemmas.Int.{to_z-of_z, to_z_pos, unsigned_abs-mul}
use Rattle.std.proofs.lemmas.List.{get_or-drop, get_or_past, length-map, length-take-le, take_rest}
use Rattle.std.proofs.lemmas.List.Elements.{All-take, All-drop}
use Rattle.std.proofs.lemmas.Simd.{Each1-replicate, Each1-weaker, zip2_splat_left}
use Rattle.std.proofs.Math.Nat.{mul-le-mul}
use Rattle.stream_model.specs.Lists.{item}
use Rattle.stream_model.specs.Numbers.{IsItem, AreItems}
use Rattle.stream_model.specs.declared.vocabulary.ItemType.TheVariants.{Short, Int}
use Rattle.numbers.proofs.Widths.{int_fits, int_near, short_near}
use Rattle.lane_filters.specs.Words.{AreWithin, every_other, spread_sums, tap_sum}
use Rattle.lane_filters.proofs.Signed.{back, each, lanes_fit, mul_asks, mul_is, nearer, products_fit, products_within}
use Rattle.lane_filters.proofs.Lists.{sum_more, sum_near}
use Rattle.lane_filters.proofs.NarrowSums.{sixteen_listed}
use Rattle.lane_filters.proofs.Taps.{abs_short}

-- ---- the lanes of a load

number_of_digits : (p n x : ℕ) → 0 < p → x < p ^ n → number_l p (digits_l p n x) ≡ x
number_of_digits p zero x some lt = omega (arith, native.Mathlib.Nat.pow-zero p)
number_of_digits p (suc n) x some lt =
    let less : x / p < p ^ n = (div-lt_iff_lt-mul some).1 (rw (← pow-suc p n) lt) in
    rw (number_of_digits p n (x / p) some less) (omega (arith, div-add-mod' x p))

number_small : (us : List ℕ) → Each1 (λ u. u < 2 ^ 32) us → number_l (2 ^ 32) us < (2 ^ 32) ^ length us
number_small [] h = rw (native.Mathlib.Nat.pow-zero (2 ^ 32)) (omega arith)
number_small (u ∷ us) h = let r = number_small us h.1 in rw (pow-suc (2 ^ 32) (length us)) (omega (arith, h.0))

-- each two halves as one word, the lower first
abbrev pub joined_words : List ℕ → List ℕ
joined_words [] = []
joined_words (u ∷ []) = []
joined_words (u ∷ v ∷ us) = (u + 2 ^ 32 * v) ∷ joined_words us

words_of : (n : ℕ) (us : List ℕ) → length us ≡ 2 * n → Each1 (λ u. u < 2 ^ 32) us → digits_l (2 ^ 64) n (number_l (2 ^ 32) us) ≡ joined_words us
words_of zero [] e h = refl
words_of zero (u ∷ us) e h = absurd (omega arith)
words_of (suc n) [] e h = absurd (omega arith)
words_of (suc n) (u ∷ []) e h = absurd (omega arith)
words_of (suc n) (u ∷ v ∷ us) e h =
    let rest = number_l (2 ^ 32) us in
    let low : (u + 2 ^ 32 * (v + 2 ^ 32 * rest)) % 2 ^ 64 ≡ u + 2 ^ 32 * v = omega (arith, h.0, h.1.0) in
    let high : (u + 2 ^ 32 * (v + 2 ^ 32 * rest)) / 2 ^ 64 ≡ rest = omega (arith, h.0, h.1.0) in
    (λ i. low i ∷ digits_l (2 ^ 64) n (high i)) ∙ ap (λ l. (u + 2 ^ 32 * v) ∷ l) (words_of n us (omega arith) h.1.1)

-- sixteen halves by way of their bytes
pub loaded_words : (us : List ℕ) → length us ≡ 16 → Each1 (λ u. u < 2 ^ 32) us
    → digits_l (2 ^ 64) 8 (number_l (2 ^ 8) (digits_l (2 ^ 8) 64 (number_l (2 ^ 32) us))) ≡ joined_words us
loaded_words us e h =
    let small : number_l (2 ^ 32) us < (2 ^ 32) ^ 16 = subst (λ n. number_l (2 ^ 32) us < (2 ^ 32) ^ n) e (number_small us h) in
    ap (digits_l (2 ^ 64) 8) (number_of_digits (2 ^ 8) 64 (number_l (2 ^ 32) us) (omega arith) small) ∙ words_of 8 us e h

-- ---- the halves of a lane

abbrev pub up : ℕ → ℕ → ℕ
up a b = (a * 2 ^ b) % 2 ^ 64

abbrev pub down : ℕ → ℕ → ℕ
down a b = of_z w64 (shr_z (to_z w64 a) (2 ^ b))

to_z_neg : (n : ℕ) → 2 ^ 63 ≤ n → to_z w64 n ≡ negsuc (2 ^ 64 - suc n)
to_z_neg n le = go (ltb n (2 ^ 63)) refl
  where
    go : (t : Bool) → ltb n (2 ^ 63) ≡ t → to_z w64 n ≡ negsuc (2 ^ 64 - suc n)
    go true e = absurd (omega (arith, ltb-true _ _ e))
    go false e = rw e

-- the upper half of a word, as a number
pub upper_half : (u v : ℕ) → u < 2 ^ 32 → v < 2 ^ 32 → to_z w64 (down (u + 2 ^ 32 * v) 32) ≡ to_z w32 v
upper_half u v less small = go (ltb v (2 ^ 31)) refl
  where
    go : (t : Bool) → ltb v (2 ^ 31) ≡ t → to_z w64 (down (u + 2 ^ 32 * v) 32) ≡ to_z w32 v
    go true e =
        let half : v < 2 ^ 31 = ltb-true _ _ e in
        let back : (u + 2 ^ 32 * v) / 2 ^ 32 ≡ v = omega arith in
        ap (λ y. to_z w64 (of_z w64 (shr_z y (2 ^ 32)))) (to_z_pos w64 (u + 2 ^ 32 * v) (omega arith)) ∙ ap (to_z w64) back
        ∙ to_z_pos w64 v (omega arith) ∙ sym (to_z_pos w32 v half)
    go false e =
        let half : 2 ^ 31 ≤ v = ltb-false _ _ e in
        let back : (2 ^ 64 - suc (u + 2 ^ 32 * v)) / 2 ^ 32 ≡ 2 ^ 32 - suc v = omega arith in
        ap (λ y. to_z w64 (of_z w64 (shr_z y (2 ^ 32)))) (to_z_neg (u + 2 ^ 32 * v) (omega arith)) ∙ ap (λ n. to_z w64 (of_z w64 (negsuc n))) back
        ∙ to_z-of_z w64 (negsuc (2 ^ 32 - suc v)) (record { sfits = omega arith }) ∙ rw e

-- and the lower one
pub lower_half : (u v : ℕ) → u < 2 ^ 32 → to_z w64 (down (up (u + 2 ^ 32 * v) 32) 32) ≡ to_z w32 u
lower_half u v less =
    let shifted : up (u + 2 ^ 32 * v) 32 ≡ 0 + 2 ^ 32 * u = omega arith in
    ap (λ n. to_z w64 (down n 32)) shifted ∙ upper_half 0 u (omega arith) less

-- ---- sixteen ints as two vectors of eight

of_small : (z : ℤ) → SFits w32 z → of_z w32 z < 2 ^ 32
of_small (pos n) f = omega (arith, f.sfits)
of_small (negsuc n) f = omega (arith, f.sfits)

all_small : (xs : List ℤ) → Each1 (SFits w32) xs → Each1 (λ u. u < 2 ^ 32) (map (of_z w32) xs)
all_small [] h = tt
all_small (x ∷ xs) h = (of_small x h.0, all_small xs h.1)

lower_lane : (a b : ℤ) → SFits w32 a → to_z w64 (down (up (of_z w32 a + 2 ^ 32 * of_z w32 b) 32) 32) ≡ a
lower_lane a b f = lower_half (of_z w32 a) (of_z w32 b) (of_small a f) ∙ to_z-of_z w32 a f

upper_lane : (a b : ℤ) → SFits w32 a → SFits w32 b → to_z w64 (down (of_z w32 a + 2 ^ 32 * of_z w32 b) 32) ≡ b
upper_lane a b f g = upper_half (of_z w32 a) (of_z w32 b) (of_small a f) (of_small b g) ∙ to_z-of_z w32 b g

abbrev pub halves_of : List ℤ → List ℕ
halves_of x = map (of_z w32) (take 16 x)

abbrev pub loaded : List ℤ → List ℕ
loaded x = digits_l (2 ^ 64) 8 (number_l (2 ^ 8) (digits_l (2 ^ 8) 64 (number_l (2 ^ 32) (halves_of x))))

abbrev pub places : List ℕ
places = 32 ∷ 32 ∷ 32 ∷ 32 ∷ 32 ∷ 32 ∷ 32 ∷ 32 ∷ []

module _ (x : List ℤ) (room : 16 ≤ length x) (range : AreItems Int x) where
  item_fits : (k : ℕ) → SFits w32 (item x k)
  item_fits k = elim (cases_lt k (length x)) [
    | inl lt ↦ int_fits (item x k) (range k (pos 0) lt)
    | inr ge ↦ subst (SFits w32) (sym (get_or_past x k (pos 0) ge)) (record { sfits = omega arith })
  ]

  words : loaded x ≡ joined_words (map (of_z w32) (item x 0 ∷ item x 1 ∷ item x 2 ∷ item x 3 ∷ item x 4 ∷ item x 5 ∷ item x 6 ∷ item x 7 ∷ item x 8 ∷ item x 9 ∷ item x 10 ∷ item x 11 ∷ item x 12 ∷ item x 13 ∷ item x 14 ∷ item x 15 ∷ []))
  words =
      let long : length (halves_of x) ≡ 16 = length-map (take 16 x) (of_z w32) ∙ length-take-le 16 x room in
      let small = all_small (take 16 x) (Each1-weaker (IsItem Int) (SFits w32) int_fits (take 16 x) (each (IsItem Int) (pos 0) (take 16 x) (All-take (IsItem Int) 16 x range))) in
      loaded_words (halves_of x) long small ∙ ap (λ xs. joined_words (map (of_z w32) xs)) (sixteen_listed x room)

  pub lower_ints : map (to_z w64) (zip2 down (zip2 up (loaded x) places) places) ≡ map (item x) (every_other 0)
  lower_ints =
      let lane = λ (k : ℕ). lower_lane (item x k) (item x (k + 1)) (item_fits k) in
      ap (λ ws. map (to_z w64) (zip2 down (zip2 up ws places) places)) words
      ∙ (λ i. lane 0 i ∷ lane 2 i ∷ lane 4 i ∷ lane 6 i ∷ lane 8 i ∷ lane 10 i ∷ lane 12 i ∷ lane 14 i ∷ [])

  pub upper_ints : map (to_z w64) (zip2 down (loaded x) places) ≡ map (item x) (every_other 1)
  upper_ints =
      let lane = λ (k : ℕ). upper_lane (item x k) (item x (k + 1)) (item_fits k) (item_fits (k + 1)) in
      ap (λ ws. map (to_z w64) (zip2 down ws places)) words
      ∙ (λ i. lane 0 i ∷ lane 2 i ∷ lane 4 i ∷ lane 6 i ∷ lane 8 i ∷ lane 10 i ∷ lane 12 i ∷ lane 14 i ∷ [])

-- ---- a tap times eight numbers

module _ (t a : ℤ) (xs : List ℤ) (is : t ≡ a) (fits : SFits w16 a) (long : length xs ≡ 8) (near : AreWithin (2 ^ 31) xs) where
  tap_near : AreWithin (2 ^ 15) (replicate 8 t)
  tap_near = Each1-replicate (λ z. unsigned_abs z ≤ 2 ^ 15) 8 t (rw is (abs_short a fits))

  tap_fits : Each1 (SFits w64) (replicate 8 t)
  tap_fits = lanes_fit (replicate 8 t) (nearer (2 ^ 15) (2 ^ 62) (replicate 8 t) (omega arith) tap_near)

  own_fits : Each1 (SFits w64) xs
  own_fits = lanes_fit xs (nearer (2 ^ 31) (2 ^ 62) xs (omega arith) near)

  pub times_asks : Each2 (Asks2 (mul signed) (s_int w64) (s_int w64)) (map (of_z w64) (replicate 8 t)) (map (of_z w64) xs)
  times_asks = mul_asks w64 (replicate 8 t) xs tap_fits own_fits (products_fit w64 (2 ^ 15) (2 ^ 31) (omega arith) (replicate 8 t) xs tap_near near)

  times_near : AreWithin (2 ^ 46) (zip2 (λ x y. x *ℤ y) (replicate 8 t) xs)
  times_near = products_within (2 ^ 15) (2 ^ 31) (replicate 8 t) xs tap_near near

  products : map (to_z w64) (zip2 (act2 (mul signed) (s_int w64) (s_int w64) (s_int w64)) (map (of_z w64) (replicate 8 t)) (map (of_z w64) xs)) ≡ zip2 (λ x y. x *ℤ y) (replicate 8 t) xs
  products =
      let all = zip2 (λ x y. x *ℤ y) (replicate 8 t) xs in
      ap (map (to_z w64)) (mul_is w64 (replicate 8 t) xs tap_fits own_fits) ∙ back w64 all (lanes_fit all (nearer (2 ^ 46) (2 ^ 62) all (omega arith) times_near))

  pub times_are : map (to_z w64) (zip2 (act2 (mul signed) (s_int w64) (s_int w64) (s_int w64)) (map (of_z w64) (replicate 8 t)) (map (of_z w64) xs)) ≡ map (λ z. a *ℤ z) xs
  times_are = products ∙ zip2_splat_left (λ x y. x *ℤ y) t 8 xs long ∙ ap (λ y. map (λ z. y *ℤ z) xs) is

  pub times_within : AreWithin (2 ^ 46) (map (to_z w64) (zip2 (act2 (mul signed) (s_int w64) (s_int w64) (s_int w64)) (map (of_z w64) (replicate 8 t)) (map (of_z w64) xs)))
  times_within = subst (AreWithin (2 ^ 46)) (sym products) times_near

-- ---- sums at every other output

pub int_item : (x : List ℤ) → AreItems Int x → (k : ℕ) → unsigned_abs (item x k) ≤ 2 ^ 31
int_item x range k = elim (cases_lt k (length x)) [
  | inl lt ↦ int_near (item x k) (range k (pos 0) lt)
  | inr ge ↦ subst (λ z. unsigned_abs z ≤ 2 ^ 31) (sym (get_or_past x k (pos 0) ge)) (omega arith)
]

-- the items that a tap meets
module _ (x : List ℤ) (range : AreItems Int x) (o : ℕ) (xs : List ℤ) (is : xs ≡ map (item x) (every_other o)) where
  met_near : AreWithin (2 ^ 31) xs
  met_near =
      let near = int_item x range in
      subst (AreWithin (2 ^ 31)) (sym is)
      (near o, (near (o + 2), (near (o + 4), (near (o + 6), (near (o + 8), (near (o + 10), (near (o + 12), (near (o + 14), tt))))))))

  pub met_back : map (to_z w64) (map (of_z w64) xs) ≡ xs
  met_back = back w64 xs (lanes_fit xs (nearer (2 ^ 31) (2 ^ 62) xs (omega arith) met_near))

  pub met_again : AreWithin (2 ^ 31) (map (to_z w64) (map (of_z w64) xs))
  met_again = subst (AreWithin (2 ^ 31)) (sym met_back) met_near

pub rest_in_range : (x : List ℤ) (from : ℕ) → AreItems Int x → AreItems Int (take (length x - from) (drop from x))
rest_in_range x from range = All-take (IsItem Int) (length x - from) (drop from x) (All-drop (IsItem Int) from x range)

module _ (h x : List ℤ) (taps : AreItems Short h) (range : AreItems Int x) where
  sum_within : (j n : ℕ) → j ≤ length h → unsigned_abs (tap_sum h x j n) ≤ j * 2 ^ 46
  sum_within j n le =
      sum_near (2 ^ 46) j (λ i. item h i *ℤ item x (n + length h - 1 - i)) (λ i lt.
      rw (unsigned_abs-mul (item h i) (item x (n + length h - 1 - i)))
      (mul-le-mul {n₂ = 2 ^ 15} {m₂ = 2 ^ 31} (short_near (item h i) (taps i (pos 0) (omega arith))) (int_item x range (n + length h - 1 - i))))

  sum_near_60 : (j n : ℕ) → j ≤ length h → length h ≤ 256 → unsigned_abs (tap_sum h x j n) ≤ 2 ^ 60
  sum_near_60 j n le most = let w = sum_within j n le in omega (arith, w)

  pub wide_near : (j at : ℕ) → j ≤ length h → length h ≤ 256 → AreWithin (2 ^ 60) (spread_sums h x j at)
  wide_near j at le most =
      let near = λ (n : ℕ). sum_near_60 j n le most in
      (near at, (near (at + 2), (near (at + 4), (near (at + 6), (near (at + 8), (near (at + 10), (near (at + 12), (near (at + 14), tt))))))))

  -- lanes that were bits in between
  pub wide_back : (j at : ℕ) → j ≤ length h → length h ≤ 256 → (sums : List ℤ) → sums ≡ spread_sums h x j at → map (to_z w64) (map (of_z w64) sums) ≡ spread_sums h x j at
  wide_back j at le most sums is =
      back w64 sums (lanes_fit sums (nearer (2 ^ 60) (2 ^ 62) sums (omega arith) (subst (AreWithin (2 ^ 60)) (sym is) (wide_near j at le most)))) ∙ is

  pub wide_again : (j at : ℕ) → j ≤ length h → length h ≤ 256 → (sums : List ℤ) → sums ≡ spread_sums h x j at → AreWithin (2 ^ 60) (map (to_z w64) (map (of_z w64) sums))
  wide_again j at le most sums is = subst (AreWithin (2 ^ 60)) (sym (wide_back j at le most sums is)) (wide_near j at le most)

tap_lane : (h x : List ℤ) (j from n k : ℕ) → from + k ≡ n + length h - 1 - j → tap_sum h x j n +ℤ (item h j *ℤ item (drop from x) k) ≡ tap_sum h x (j + 1) n
tap_lane h x j from n k e =
    let p : item (drop from x) k ≡ item x (n + length h - 1 - j) = get_or-drop from x k (pos 0) ∙ ap (item x) e in
    (λ i. tap_sum h x j n +ℤ (item h j *ℤ p i)) ∙ sym (sum_more j (λ i. item h i *ℤ item x (n + length h - 1 - i)))

-- one more tap at the outputs from n on, whose items begin o places behind the others
pub tap_more : (h x : List ℤ) (j from n o : ℕ) → j < length h → from + o ≡ n + (length h - 1 - j)
    → zip2 (λ a b. a +ℤ b) (spread_sums h x j n) (map (λ z. item h j *ℤ z) (map (item (drop from x)) (every_other o))) ≡ spread_sums h x (j + 1) n
tap_more h x j from n o lt e =
    let a = tap_lane h x j from n o (omega arith) in
    let b = tap_lane h x j from (n + 2) (o + 2) (omega arith) in
    let c = tap_lane h x j from (n + 4) (o + 4) (omega arith) in
    let d = tap_lane h x j from (n + 6) (o + 6) (omega arith) in
    let f = tap_lane h x j from (n + 8) (o + 8) (omega arith) in
    let g = tap_lane h x j from (n + 10) (o + 10) (omega arith) in
    let k = tap_lane h x j from (n + 12) (o + 12) (omega arith) in
    let l = tap_lane h x j from (n + 14) (o + 14) (omega arith) in
    λ i. a i ∷ b i ∷ c i ∷ d i ∷ f i ∷ g i ∷ k i ∷ l i ∷ []

-- the turn of the loop over the taps: what the calls gave
module _ (h x : List ℤ) (taps : AreItems Short h) (range : AreItems Int x) (most : length h ≤ 256) (j n from o : ℕ) (lt : j < length h) (place : from + o ≡ n + (length h - 1 - j)) where
  pub wide_step : (sums xs prods res : List ℤ) (tap : ℤ) → sums ≡ spread_sums h x j n
      → xs ≡ map (item (take (length x - from) (drop from x))) (every_other o) → tap ≡ item h j
      → prods ≡ map (λ z. tap *ℤ z) (map (to_z w64) (map (of_z w64) xs)) → AreWithin (2 ^ 46) prods
      → res ≡ zip2 (λ a b. a +ℤ b) (map (to_z w64) (map (of_z w64) sums)) (map (to_z w64) (map (of_z w64) prods))
      → map (to_z w64) (map (of_z w64) res) ≡ spread_sums h x (j + 1) n
  wide_step sums xs prods res tap s met t p near r =
      let sums_back = wide_back h x taps range j n (omega arith) most sums s in
      let prods_back = back w64 prods (lanes_fit prods (nearer (2 ^ 46) (2 ^ 62) prods (omega arith) near)) in
      let xs_back = met_back (take (length x - from) (drop from x)) (rest_in_range x from range) o xs met in
      let all : take (length x - from) (drop from x) ≡ drop from x = take_rest x from in
      let made : prods ≡ map (λ z. item h j *ℤ z) (map (item (drop from x)) (every_other o)) =
      p ∙ (λ i. map (λ z. t i *ℤ z) (xs_back i)) ∙ ap (map (λ z. item h j *ℤ z)) (met ∙ ap (λ l. map (item l) (every_other o)) all) in
      let is : res ≡ spread_sums h x (j + 1) n =
      r ∙ (λ i. zip2 (λ a b. a +ℤ b) (sums_back i) (prods_back i)) ∙ ap (zip2 (λ a b. a +ℤ b) (spread_sums h x j n)) made ∙ tap_more h x j from n o lt place in
      wide_back h x taps range (j + 1) n (omega arith) most res is
