-- Sums of items that follow each other.
use Rattle.std.proofs.Common.{◌≡◌, ℕ, suc, ◌+◌, ◌*◌, ◌^◌, ◌<◌, ◌≤◌, ℤ, pos, ◌+ℤ◌, ◌-ℤ◌, List, [], ◌∷◌, length, take, drop, w64, FitsSigned, to_z, of_z, arith, ap, sym, ◌∙◌}
use Rattle.std.specs.Int.RustNames.{unsigned_abs}
use Rattle.std.proofs.lemmas.Int.{ints, fits_signed_from_abs, to_z-of_z}
use Rattle.stream_model.specs.declared.vocabulary.ItemType.{ItemType}
use Rattle.stream_model.specs.declared.vocabulary.ItemType.TheVariants.{Byte, Short, Int}
use Rattle.stream_model.specs.Numbers.{IsItem, AreItems, total}
use Rattle.stream_model.specs.Lists.{item, listed, sum_below}
use Rattle.shape_laws.specs.Shaped.{item-listed, length-listed}
use Rattle.shape_laws.specs.Windows.{total-push}
use Rattle.numbers.proofs.Widths.{short_near, int_near}
use Rattle.std.proofs.lemmas.List.{take_more, get_or-drop, get_or-take, length-drop, length-take-le, ext_get_or}
use Rattle.std.proofs.lemmas.List.Elements.{All-take, All-drop}
use Rattle.std.proofs.Math.Seq.{drop-cons}

-- an item is not far from 0
pub item_small : (t : ItemType) (z : ℤ) → IsItem t z → unsigned_abs z ≤ 2 ^ 31
item_small Byte z h = omega (arith, ints, h.above, h.below)
item_small Short z h = omega (arith, short_near z h)
item_small Int z h = int_near z h

pub abs_add : (x y : ℤ) → unsigned_abs (x +ℤ y) ≤ unsigned_abs x + unsigned_abs y
abs_add x y = omega (arith, ints)

abs_sub : (x y : ℤ) → unsigned_abs (x -ℤ y) ≤ unsigned_abs x + unsigned_abs y
abs_sub x y = omega (arith, ints)

-- nor is the sum of some items
pub total_small : (t : ItemType) (xs : List ℤ) → AreItems t xs → unsigned_abs (total xs) ≤ length xs * 2 ^ 31
total_small t [] h = omega arith
total_small t (x ∷ xs) h =
    omega (arith, abs_add x (total xs), item_small t x (h 0 x (omega arith)), total_small t xs (λ k d l. h (suc k) d (omega arith)))

-- so each sum of up to 2 ^ 31 items fits a word of 64 bits
pub total_fits : (t : ItemType) (xs : List ℤ) (s : ℤ) → AreItems t xs → length xs ≤ 2 ^ 31 → s ≡ total xs → FitsSigned w64 s
total_fits t xs s h few e = fits_signed_from_abs w64 s (rw e (omega (arith, total_small t xs h)))

-- words of 64 bits hold such sums as they are
word_fits : (z : ℤ) → unsigned_abs z ≤ 2 ^ 62 + 2 ^ 32 → FitsSigned w64 z
word_fits z h = fits_signed_from_abs w64 z (omega arith)

word_is : (z : ℤ) → unsigned_abs z ≤ 2 ^ 62 + 2 ^ 32 → to_z w64 (of_z w64 z) ≡ z
word_is z h = to_z-of_z w64 z (word_fits z h)

pub added : (s x : ℤ) → unsigned_abs s ≤ 2 ^ 62 → unsigned_abs x ≤ 2 ^ 31 → to_z w64 (of_z w64 (s +ℤ to_z w64 (of_z w64 x))) ≡ s +ℤ x
added s x near small = ap (λ y. to_z w64 (of_z w64 (s +ℤ y))) (word_is x (omega arith)) ∙ word_is (s +ℤ x) (omega (arith, abs_add s x))

-- the sum with one more item at its end
pub total_more : (xs : List ℤ) (n : ℕ) → n < length xs → total (take (n + 1) xs) ≡ total (take n xs) +ℤ item xs n
total_more xs n h = ap total (take_more xs n (pos 0) h) ∙ total-push (take n xs) (item xs n)

pub total_plus : (xs : List ℤ) (n : ℕ) (s x : ℤ) → n < length xs → s ≡ total (take n xs) → x ≡ item xs n → s +ℤ x ≡ total (take (n + 1) xs)
total_plus xs n s x h sum last = (λ i. sum i +ℤ last i) ∙ sym (total_more xs n h)

-- a part of a list, item by item
pub part_listed : (xs : List ℤ) (a n : ℕ) → a + n ≤ length xs → take n (drop a xs) ≡ listed n (λ j. item xs (a + j))
part_listed xs a n within =
    let whole : length (take n (drop a xs)) ≡ n = length-take-le n (drop a xs) (omega (arith, length-drop a xs)) in
    ext_get_or (pos 0) _ _ (whole ∙ sym (length-listed n (λ j. item xs (a + j))))
    (λ k h.
    let near : k < n = omega (arith, h, whole) in
    get_or-take n (drop a xs) k (pos 0) near ∙ get_or-drop a xs k (pos 0) ∙ sym (item-listed n (λ j. item xs (a + j)) k near))

-- the sum of a part
pub total_part : (xs : List ℤ) (a n : ℕ) → a + n ≤ length xs → total (take n (drop a xs)) ≡ sum_below n (λ j. item xs (a + j))
total_part xs a n within = ap total (part_listed xs a n within)

-- the sum of n + 1 items from item a on: that of the first n and the last, or that of the last n and the first
pub total_comes : (xs : List ℤ) (a n : ℕ) → a + n < length xs → total (take n (drop a xs)) +ℤ item xs (a + n) ≡ total (take (n + 1) (drop a xs))
total_comes xs a n within =
    ap (λ z. total (take n (drop a xs)) +ℤ z) (sym (get_or-drop a xs n (pos 0))) ∙ sym (total_more (drop a xs) n (omega (arith, length-drop a xs)))

pub total_goes : (xs : List ℤ) (a n : ℕ) → a + n < length xs → total (take (n + 1) (drop a xs)) -ℤ item xs a ≡ total (take n (drop (a + 1) xs))
total_goes xs a n within =
    let e : suc a ≡ a + 1 = omega arith in
    let f : n + 1 ≡ suc n = omega arith in
    let front : total (take (n + 1) (drop a xs)) ≡ item xs a +ℤ total (take n (drop (a + 1) xs)) =
    (λ i. total (take (f i) (drop-cons xs a (pos 0) (omega arith) i))) ∙ ap (λ b. item xs a +ℤ total (take n (drop b xs))) e in
    rw front (omega (arith, ints))

-- a running sum over the items of a list: s is that of `past` items from item a on, x comes after them, and y is the first of them
module _ (t : ItemType) (xs : List ℤ) (are : AreItems t xs) (a past : ℕ) (within : a + past < length xs) (few : past ≤ 2 ^ 31) (s x y : ℤ)
    (sum : s ≡ total (take past (drop a xs))) (comes : x ≡ item xs (a + past)) (goes : y ≡ item xs a) where
  near : unsigned_abs s ≤ 2 ^ 62
  near =
      let part = take past (drop a xs) in
      let long : length part ≡ past = length-take-le past (drop a xs) (omega (arith, length-drop a xs)) in
      rw sum (omega (arith, long, total_small t part (All-take (IsItem t) past (drop a xs) (All-drop (IsItem t) a xs are))))

  x_small : unsigned_abs x ≤ 2 ^ 31
  x_small = rw comes (item_small t (item xs (a + past)) (are (a + past) (pos 0) within))

  y_small : unsigned_abs y ≤ 2 ^ 31
  y_small = rw goes (item_small t (item xs a) (are a (pos 0) (omega arith)))

  -- the item that comes is added
  pub comes_fits : FitsSigned w64 (s +ℤ to_z w64 (of_z w64 x))
  comes_fits = rw (word_is x (omega (arith, x_small))) (word_fits (s +ℤ x) (omega (arith, near, x_small, abs_add s x)))

  abbrev with_next : ℤ
  with_next = to_z w64 (of_z w64 (s +ℤ to_z w64 (of_z w64 x)))

  pub comes_sum : with_next ≡ total (take (past + 1) (drop a xs))
  comes_sum = added s x near x_small ∙ (λ i. sum i +ℤ comes i) ∙ total_comes xs a past within

  -- and the one that goes is taken away
  taken_near : unsigned_abs (with_next -ℤ y) ≤ 2 ^ 62 + 2 ^ 32
  taken_near = rw (added s x near x_small) (omega (arith, near, x_small, y_small, abs_add s x, abs_sub (s +ℤ x) y))

  pub goes_fits : FitsSigned w64 (with_next -ℤ to_z w64 (of_z w64 y))
  goes_fits = rw (word_is y (omega (arith, y_small))) (word_fits (with_next -ℤ y) taken_near)

  pub goes_sum : to_z w64 (of_z w64 (with_next -ℤ to_z w64 (of_z w64 y))) ≡ total (take past (drop (a + 1) xs))
  goes_sum =
      ap (λ z. to_z w64 (of_z w64 (with_next -ℤ z))) (word_is y (omega (arith, y_small)))
      ∙ word_is (with_next -ℤ y) taken_near
      ∙ (λ i. comes_sum i -ℤ goes i)
      ∙ total_goes xs a past within
