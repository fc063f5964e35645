-- Sums of products of taps and items.
use Rattle.std.proofs.Common.{◌≡◌, ℕ, zero, suc, ◌+◌, ◌-◌, ◌*◌, ◌<◌, ◌≤◌, ◌^◌, List, [], ◌∷◌, map, take, drop, replicate, get_or, length, ap, sym, subst, ◌∙◌, arith, ℤ, pos, negsuc, ◌+ℤ◌, ◌*ℤ◌, w16, w64}
use lib.Lanes.{zip2}
use Rattle.std.specs.Int.RustNames.{unsigned_abs}
use Rattle.std.specs.List.{range_with_len}
use mir.Val.{to_z, of_z, SFits}
use Rattle.std.proofs.lemmas.Int.{ints, unsigned_abs-mul, to_z-of_z}
use Rattle.std.proofs.lemmas.List.{length-map, take_rest}
use Rattle.std.proofs.lemmas.Simd.{zip2-map}
use Rattle.std.proofs.Math.Nat.{mul-le-mul}
use Rattle.stream_model.specs.Lists.{sum_below}
use Rattle.stream_model.specs.Numbers.{IsItem, AreItems}
use Rattle.stream_model.specs.declared.vocabulary.ItemType.{ItemType}
use Rattle.stream_model.specs.declared.vocabulary.ItemType.TheVariants.{Byte, Short, Int}
use Rattle.numbers.proofs.Mapped.{map_part}
use Rattle.numbers.proofs.Widths.{short_fits}
use Rattle.lane_filters.specs.Words.{AreWithin, tap_sum, tap_sums}
use Rattle.lane_filters.proofs.Signed.{back, lanes_fit, nearer, sums_within, fits_near, abs_add}
use Rattle.lane_filters.proofs.Lists.{map_same, sum_more, part_items, zip_number}

pub item_near : (t : ItemType) (z : ℤ) → IsItem t z → unsigned_abs z ≤ 2 ^ 31
item_near Byte z h = omega (arith, ints, h.above, h.below)
item_near Short z h = omega (arith, ints, h.above, h.below)
item_near Int z h = omega (arith, ints, h.above, h.below)

-- eight more sums: the product of tap j and the items that it meets
pub tap_more : {X : Type 0} (number : X → ℤ) (h : List ℤ) (xs : List X) (at j : ℕ) → j < length h → at + 7 + length h ≤ length xs
    → zip2 (λ a b. a +ℤ b) (tap_sums h (map number xs) j at) (zip2 (λ a b. a *ℤ number b) (replicate 8 (get_or h j (pos 0))) (take 8 (drop (at + (length h - 1 - j)) xs)))
    ≡ tap_sums h (map number xs) (j + 1) at
tap_more number h xs at j lt room =
    let x = map number xs in
    let c = length h - 1 - j in
    let vs = range_with_len at 8 in
    let tap = get_or h j (pos 0) in
    let long : at + c + 8 ≤ length x = omega (arith, length-map xs number) in
    let part : map number (take 8 (drop (at + c) xs)) ≡ take 8 (drop (at + c) x) = map_part number (at + c) 8 xs in
    let lanes : zip2 (λ a b. a *ℤ number b) (replicate 8 tap) (take 8 (drop (at + c) xs)) ≡ map (λ n. tap *ℤ get_or x (n + c) (pos 0)) vs =
    zip_number number (replicate 8 tap) (take 8 (drop (at + c) xs)) ∙ ap (zip2 (λ a b. a *ℤ b) (replicate 8 tap)) part ∙ part_items tap x at c 8 long in
    let place : (n : ℕ) → n + c ≡ n + length h - 1 - j = λ n. omega arith in
    ap (zip2 (λ a b. a +ℤ b) (tap_sums h x j at)) lanes
    ∙ zip2-map (λ a b. a +ℤ b) (tap_sum h x j) (λ n. tap *ℤ get_or x (n + c) (pos 0)) vs
    ∙ map_same (λ n. tap_sum h x j n +ℤ (tap *ℤ get_or x (n + c) (pos 0))) (tap_sum h x (j + 1))
    (λ n. ap (λ m. tap_sum h x j n +ℤ (tap *ℤ get_or x m (pos 0))) (place n) ∙ sym (sum_more j (λ i. get_or h i (pos 0) *ℤ get_or x (n + length h - 1 - i) (pos 0)))) vs

module _ {X : Type 0} (number : X → ℤ) (h : List ℤ) (xs : List X) (at j : ℕ) (lt : j < length h) (few : j < 256) (room : at + 7 + length h ≤ length xs) (range : AreItems Short h) where
  abbrev from : ℕ
  from = at + (length h - 1 - j)

  -- the turn of the loop over the taps: what the calls gave
  pub eight_more : (sums prods res : List ℤ) → sums ≡ tap_sums h (map number xs) j at → AreWithin (j * 2 ^ 46) sums
      → prods ≡ zip2 (λ a b. a *ℤ number b) (replicate 8 (to_z w16 (of_z w16 (get_or h j (pos 0))))) (take 8 (take (length xs - from) (drop from xs)))
      → AreWithin (2 ^ 46) prods
      → res ≡ zip2 (λ a b. a +ℤ b) sums (map (to_z w64) (map (of_z w64) prods))
      → (map (to_z w64) (map (of_z w64) res) ≡ tap_sums h (map number xs) (j + 1) at) × AreWithin ((j + 1) * 2 ^ 46) (map (to_z w64) (map (of_z w64) res))
  eight_more sums prods res s near p within r =
      let hj = get_or h j (pos 0) in
      let x = map number xs in
      let wide = lanes_fit prods (nearer (2 ^ 46) (2 ^ 62) prods (omega arith) within) in
      let tap : to_z w16 (of_z w16 hj) ≡ hj = to_z-of_z w16 hj (short_fits hj (range j (pos 0) lt)) in
      let ps : prods ≡ zip2 (λ a b. a *ℤ number b) (replicate 8 hj) (take 8 (drop from xs)) =
      p ∙ ap (λ t. zip2 (λ a b. a *ℤ number b) (replicate 8 t) (take 8 (take (length xs - from) (drop from xs)))) tap
      ∙ ap (λ ys. zip2 (λ a b. a *ℤ number b) (replicate 8 hj) (take 8 ys)) (take_rest xs from) in
      let sum : res ≡ zip2 (λ a b. a +ℤ b) sums prods = r ∙ ap (zip2 (λ a b. a +ℤ b) sums) (back w64 prods wide) in
      let is : res ≡ tap_sums h x (j + 1) at =
      sum ∙ ap (λ a. zip2 (λ a b. a +ℤ b) a prods) s ∙ ap (zip2 (λ a b. a +ℤ b) (tap_sums h x j at)) ps ∙ tap_more number h xs at j lt room in
      let both : AreWithin (j * 2 ^ 46 + 2 ^ 46) res = subst (AreWithin (j * 2 ^ 46 + 2 ^ 46)) (sym sum) (sums_within (j * 2 ^ 46) (2 ^ 46) sums prods near within) in
      let fits = lanes_fit res (nearer (j * 2 ^ 46 + 2 ^ 46) (2 ^ 62) res (omega arith) both) in
      let same = back w64 res fits in
      (same ∙ is, subst (AreWithin ((j + 1) * 2 ^ 46)) (sym same) (nearer (j * 2 ^ 46 + 2 ^ 46) ((j + 1) * 2 ^ 46) res (omega arith) both))

pub abs_short : (z : ℤ) → SFits w16 z → unsigned_abs z ≤ 2 ^ 15
abs_short (pos n) h = omega (arith, h.sfits)
abs_short (negsuc n) h = omega (arith, h.sfits)

-- the same of a tap as its type has it
pub tap_near : (t : ItemType) (a b : ℤ) → SFits w16 a → IsItem t b → unsigned_abs (a *ℤ b) ≤ 2 ^ 46
tap_near t a b h k = rw (unsigned_abs-mul a b) (mul-le-mul {n₂ = 2 ^ 15} {m₂ = 2 ^ 31} (abs_short a h) (item_near t b k))

-- a sum, a tap and an item, as the code's numbers
module _ (t : ItemType) (s a b tap item : ℤ) (s_fits : SFits w64 s) (s_near : unsigned_abs s ≤ 2 ^ 60) (a_fits : SFits w16 a) (tap_is : tap ≡ to_z w16 (of_z w16 a)) (tap_fits : SFits w64 tap)
    (item_is : item ≡ b) (item_fits : SFits w64 item) (b_in : IsItem t b) where
  near : unsigned_abs (a *ℤ b) ≤ 2 ^ 46
  near = tap_near t a b a_fits b_in

  product : to_z w64 (of_z w64 tap) *ℤ to_z w64 (of_z w64 item) ≡ a *ℤ b
  product = rw (to_z-of_z w64 tap tap_fits, to_z-of_z w64 item item_fits, tap_is, to_z-of_z w16 a a_fits, item_is)

  pub product_fits : SFits w64 (to_z w64 (of_z w64 tap) *ℤ to_z w64 (of_z w64 item))
  product_fits = subst (SFits w64) (sym product) (fits_near (a *ℤ b) (let n = near in omega arith))

  product_back : to_z w64 (of_z w64 (to_z w64 (of_z w64 tap) *ℤ to_z w64 (of_z w64 item))) ≡ a *ℤ b
  product_back = to_z-of_z w64 (to_z w64 (of_z w64 tap) *ℤ to_z w64 (of_z w64 item)) product_fits ∙ product

  sum : to_z w64 (of_z w64 s) +ℤ to_z w64 (of_z w64 (to_z w64 (of_z w64 tap) *ℤ to_z w64 (of_z w64 item))) ≡ s +ℤ a *ℤ b
  sum = ap (λ z. z +ℤ to_z w64 (of_z w64 (to_z w64 (of_z w64 tap) *ℤ to_z w64 (of_z w64 item)))) (to_z-of_z w64 s s_fits) ∙ ap (λ z. s +ℤ z) product_back

  sum_near : unsigned_abs (s +ℤ a *ℤ b) ≤ unsigned_abs s + 2 ^ 46
  sum_near = let n = near in omega (arith, abs_add s (a *ℤ b))

  pub sum_fits : SFits w64 (to_z w64 (of_z w64 s) +ℤ to_z w64 (of_z w64 (to_z w64 (of_z w64 tap) *ℤ to_z w64 (of_z w64 item))))
  sum_fits = subst (SFits w64) (sym sum) (fits_near (s +ℤ a *ℤ b) (let n = sum_near in omega arith))

  pub sum_is : to_z w64 (of_z w64 (to_z w64 (of_z w64 s) +ℤ to_z w64 (of_z w64 (to_z w64 (of_z w64 tap) *ℤ to_z w64 (of_z w64 item))))) ≡ s +ℤ a *ℤ b
  sum_is = to_z-of_z w64 _ sum_fits ∙ sum

  pub sum_within : unsigned_abs (to_z w64 (of_z w64 (to_z w64 (of_z w64 s) +ℤ to_z w64 (of_z w64 (to_z w64 (of_z w64 tap) *ℤ to_z w64 (of_z w64 item)))))) ≤ unsigned_abs s + 2 ^ 46
  sum_within = rw sum_is sum_near

-- the number of an element that was read
pub read_number : {X : Type 0} (number : X → ℤ) (xs : List X) (i : ℕ) (r : X) → i < length xs → r ≡ get_or xs i r → get_or (map number xs) i (pos 0) ≡ number r
read_number number [] i r lt e = absurd (omega arith)
read_number number (x ∷ xs) zero r lt e = ap number (sym e)
read_number number (x ∷ xs) (suc i) r lt e = read_number number xs i r (omega arith) e

-- a turn of a loop that adds the n-th product
pub sum_step : (f : ℕ → ℤ) (n : ℕ) (s r tap item : ℤ) → s ≡ sum_below n f → unsigned_abs s ≤ n * 2 ^ 46 → r ≡ s +ℤ tap *ℤ item → tap *ℤ item ≡ f n → unsigned_abs r ≤ unsigned_abs s + 2 ^ 46 → SFits w64 r
    → (to_z w64 (of_z w64 r) ≡ sum_below (n + 1) f) × (unsigned_abs (to_z w64 (of_z w64 r)) ≤ (n + 1) * 2 ^ 46)
sum_step f n s r tap item e le is p more fits =
    let b = to_z-of_z w64 r fits in
    (b ∙ is ∙ ap (λ z. s +ℤ z) p ∙ ap (λ z. z +ℤ f n) e ∙ sym (sum_more n f), rw b (omega arith))
