-- The kinds that change a rate, take turns between streams, or move a stream.
use Rattle.std.specs.Prelude.{◌≤◌, ◌<◌, ◌≢◌, All, ℕ, suc, ◌+◌, ◌-◌, ◌*◌, ◌/◌, ◌%◌, ℤ, pos, List, [], ◌∷◌, length, take, sum, Some, None, slice_index_or, nat_lt, if◌then◌else◌}
use Rattle.std.specs.List.{AllPairs}
use Rattle.std.specs.Ordering.{int_eq}
use Rattle.stream_model.specs.declared.vocabulary.ItemType.{ItemType}
use Rattle.stream_model.specs.declared.vocabulary.Shift.TheVariants as shifts
use Rattle.stream_model.specs.Numbers.{AreItems, least_of, greatest_of, wrap}
use Rattle.stream_model.specs.Lists.{item, item_before, listed, sum_below}
use Rattle.stream_model.specs.Meaning.{Meaning, input}
use Rattle.stream_model.specs.Shapes.{ports, at_rate, sync}
use Rattle.kind_model.specs.Math.{least_up_to, greatest_down_to}

-- the last of each n items (GNU Radio manual)
abbrev pub keep_one_in_n : ItemType → ℕ → Meaning
keep_one_in_n t n = record (at_rate (ports 1 t) (ports 1 t) n 1) {
  out = λ ts xs p k. item (input xs 0)
      (k * n + n - 1);
}

-- of each n items the m from item `offset` on (GNU Radio manual)
abbrev pub keep_m_in_n : ItemType → ℕ → ℕ → ℕ → Meaning
keep_m_in_n t m n offset = record (at_rate (ports 1 t) (ports 1 t) n m) {
  out = λ ts xs p k. item (input xs 0)
      (k / m * n + offset + k % m);
}

-- which items may be kept (GNU Radio manual; the limit of n and that the items end before the next n are own)
pub record IsKept (m n offset : ℕ) : Type 0 where
  pub some : 1 ≤ m
  pub within : offset + m ≤ n
  pub few : n ≤ 1024

-- the sum of each n items, wrapped (GNU Radio manual; wrapping is own)
abbrev pub integrate : ItemType → ℕ → Meaning
integrate t n = record (at_rate (ports 1 t) (ports 1 t) n 1) {
  out = λ ts xs p k. wrap t
      (sum_below n (λ j. item (input xs 0) (k * n + j)));
}

-- frame k of a list, where a frame has n items
abbrev pub frame : ℕ → List ℤ → ℕ → List ℤ
frame n xs k = listed n (λ j. item xs (k * n + j))

-- the least of each n items (GNU Radio manual: min of vectors)
abbrev pub frame_minimum : ItemType → ℕ → Meaning
frame_minimum t n = record (at_rate (ports 1 t) (ports 1 t) n 1) {
  out = λ ts xs p k. least_up_to (greatest_of t)
      (frame n (input xs 0) k);
}

-- the greatest of each n items (GNU Radio manual: max of vectors)
abbrev pub frame_maximum : ItemType → ℕ → Meaning
frame_maximum t n = record (at_rate (ports 1 t) (ports 1 t) n 1) {
  out = λ ts xs p k. greatest_down_to (least_of t)
      (frame n (input xs 0) k);
}

-- the place of the first of a list that is z, and its length where none is
abbrev pub place_of : ℤ → List ℤ → ℕ
place_of z [] = 0
place_of z (x ∷ xs) = if int_eq x z then 0 else suc (place_of z xs)

-- the place of the first of the greatest numbers of a list
abbrev pub place_of_greatest : ItemType → List ℤ → ℕ
place_of_greatest t xs = place_of (greatest_down_to (least_of t) xs) xs

-- the place of the first of the greatest of each n items, wrapped (GNU Radio manual; wrapping is own)
abbrev pub argmax : ItemType → ℕ → Meaning
argmax t n = record (at_rate (ports 1 t) (ports 1 t) n 1) {
  out = λ ts xs p k. wrap t
      (pos (place_of_greatest t (frame n (input xs 0) k)));
}

-- each item n times (GNU Radio manual)
abbrev pub repeat : ItemType → ℕ → Meaning
repeat t n = record (at_rate (ports 1 t) (ports 1 t) 1 n) { out = λ ts xs p k. item (input xs 0) (k / n) }

-- an item of each input in turn: output m * n + p is item m of input p (GNU Radio manual)
abbrev pub interleave : ItemType → ℕ → Meaning
interleave t n = record (at_rate (ports n t) (ports 1 t) 1 n) { out = λ ts xs p k. item (input xs (k % n)) (k / n) }

-- an item for each output in turn: item m of output p is item m * n + p (GNU Radio manual); there is no output n
abbrev pub deinterleave : ItemType → ℕ → Meaning
deinterleave t n = record (at_rate (ports 1 t) (ports n t) n 1) {
  out = λ ts xs p m. if nat_lt p n then item
      (input xs 0) (m * n + p) else pos 0;
}

-- item r of a period that has `values` from its item `offset` on, and else the stream's items, in turn from item a on
abbrev pub inserted : List ℤ → ℕ → List ℤ → ℕ → ℕ → ℤ
inserted values offset xs a r =
    if nat_lt r offset then item xs (a + r) else if nat_lt r (offset + length values) then item values
    (r - offset) else item xs (a + (r - length values))

-- `values` once in each `period` output items, from item `offset` of these on, and the input in all other places (GNU
-- Radio manual; its block counts `offset` from the period)
abbrev pub insert : ItemType → List ℤ → ℕ → ℕ → Meaning
insert t values period offset =
    let rest = period - length values in
    record (at_rate (ports 1 t) (ports 1 t) rest period) {
      out = λ ts xs p k. inserted values offset (input xs 0)
          (k / period * rest) (k % period);
    }

-- what may be put into a stream: 1 to 256 items of its type, which leave room for others and lie whole in a period (GNU
-- Radio manual; the limits are own)
pub record IsInsert (t : ItemType) (values : List ℤ) (period offset : ℕ) : Type 0 where
  pub some : 1 ≤ length values
  pub few : length values ≤ 256
  pub items : AreItems t values
  pub above : length values < period
  pub most : period ≤ 1024
  pub whole : offset ≤ period - length values

-- the number at place j of an order, 0 where there is none
abbrev pub from_place : List ℕ → ℕ → ℕ
from_place order j = slice_index_or order j 0

-- of each n items, where the order has n places, item order[j] goes to place j (own)
abbrev pub permute : ItemType → List ℕ → Meaning
permute t order =
    let n = length order in
    record (at_rate (ports 1 t) (ports 1 t) n n) {
      out = λ ts xs p k. item (input xs 0)
          (k / n * n + from_place order (k % n));
    }

-- an order of 1 to 256 places: each of its numbers is below its length, and no two are equal
pub record IsOrder (order : List ℕ) : Type 0 where
  pub some : 1 ≤ length order
  pub few : length order ≤ 256
  pub within : All (λ a. a < length order) order
  pub once : AllPairs (λ a b. a ≢ b) order

-- a list again and again, an item for each item of the input (own)
abbrev pub pattern : ItemType → List ℤ → Meaning
pattern t values = record (sync t t) { out = λ ts xs p k. item values (k % length values) }

-- the number of each item of the input modulo n, wrapped (own)
abbrev pub counter : ItemType → ℕ → Meaning
counter t n = record (sync t t) { out = λ ts xs p k. wrap t (pos (k % n)) }

-- the first n items (GNU Radio manual)
abbrev pub head : ItemType → ℕ → Meaning
head t n = record (sync t t) { place = λ p s. s; limit = Some n; out = λ ts xs p k. item (input xs 0) k }

-- all but the first n items (GNU Radio manual; the counts and the place of tags are own)
abbrev pub skiphead : ItemType → ℕ → Meaning
skiphead t n =
    record (sync t t) {
      rate = λ p. None;
      shift = shifts.Skip n;
      taken = λ p k. k;
      given = λ k. k - n;
      place = λ p s. s - n;
      out = λ ts xs p k. item (input xs 0) (k + n);
    }

-- n zeros, then the input (GNU Radio manual; the counts are own)
abbrev pub delay : ItemType → ℕ → Meaning
delay t n =
    record (sync t t) {
      rate = λ p. None;
      shift = shifts.Delay n;
      taken = λ p k. k - n;
      given = λ k. k;
      place = λ p s. s + n;
      out = λ ts xs p k. item_before (input xs 0) k n;
    }

-- the lengths that a mux may have: some items of each input, and not too many in a round (own)
pub record IsMux (lengths : List ℕ) : Type 0 where
  pub some : 1 ≤ length lengths
  pub each : All (λ l. (1 ≤ l) × (l ≤ 1024)) lengths
  pub all : sum lengths ≤ 1024

-- how many items a mux takes of input p in a round; 1 where there is no such input
abbrev pub turn_of : List ℕ → ℕ → ℕ
turn_of lengths p = slice_index_or lengths p 1

-- item r of round g: the first of lengths[p] of input p, the next of input p + 1, and so on
abbrev pub round_item : List ℕ → ℕ → List (List ℤ) → ℕ → ℕ → ℤ
round_item [] p xs g r = pos 0
round_item (l ∷ ls) p xs g r = if nat_lt r l then item (input xs p) (g * l + r) else round_item ls (suc p) xs g (r - l)

-- rounds of lengths[p] items of each input p in turn (GNU Radio manual; whole rounds only and the place of tags are
-- own)
abbrev pub stream_mux : ItemType → List ℕ → Meaning
stream_mux t lengths =
    let all = sum lengths in
    record (at_rate (ports (length lengths) t) (ports 1 t) 1 all) {
      rate = λ p. Some (turn_of lengths p, all);
      taken = λ p k. turn_of lengths p * k;
      place = λ p s. s / turn_of lengths p * all + sum (take p lengths) + s % turn_of lengths p;
      out = λ ts xs p n. round_item lengths 0 xs (n / all) (n % all);
    }
