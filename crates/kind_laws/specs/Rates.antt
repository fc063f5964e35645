-- The kinds that change a rate, take turns or move a stream are lawful.
use Rattle.std.specs.Prelude.{ℕ, zero, suc, ◌+◌, ◌-◌, ◌*◌, ◌/◌, ◌%◌, ◌<◌, ◌≤◌, ◌≡◌, ℤ, pos, List, [], ◌∷◌, length, take, sum, All, Bool, true, false, if◌then◌else◌, nat_lt, nat_le, refl}
use Rattle.std.proofs.Common.{ap, subst, sym, arith, inl, inr}
use Rattle.std.proofs.lemmas.Bool.{cases_lt}
use Rattle.std.proofs.lemmas.Bool.Decides.{nat_tests}
use Rattle.std.proofs.lemmas.List.{get_or_past}
use Rattle.std.proofs.lemmas.Nat.{div_below}
use Rattle.stream_model.specs.declared.vocabulary.ItemType.{ItemType}
use Rattle.stream_model.specs.Numbers.{IsItem, AreItems, least_of, greatest_of, wrap}
use Rattle.stream_model.specs.Lists.{item, item_before}
use Rattle.stream_model.specs.Meaning.{input, IsLawful}
use Rattle.kind_model.specs.Rates.{frame, frame_minimum, frame_maximum, place_of_greatest, argmax, pattern, counter, keep_one_in_n, keep_m_in_n, IsKept, inserted, insert, IsInsert, from_place, permute, IsOrder, integrate, repeat, interleave, deinterleave, head, skiphead, delay, turn_of, round_item, IsMux, stream_mux}
use Rattle.shape_laws.specs.Shaped.{IsItem-zero, IsItem-wrap, IsItem-item, AreItems-input, item-same, sum_below-same, IsRate, one_for_one, map-same, get_or-map_numbers, length-listed, IsAtRate-at_rate, sum-cons, shaped-lawful}
use Rattle.kind_laws.specs.Math.{IsItem-least_up_to, IsItem-greatest_down_to, IsItem-greatest, IsItem-least}
use Rattle.kind_model.specs.Math.{least_up_to, greatest_down_to}

-- d items for one, and one for i
down : (d : ℕ) → 1 ≤ d → d ≤ 1024 → IsRate d 1
down d low high = record { takes_some = low; takes_few = high; gives_some = omega arith; gives_few = omega arith }

up : (i : ℕ) → 1 ≤ i → i ≤ 1024 → IsRate 1 i
up i low high = record { takes_some = omega arith; takes_few = omega arith; gives_some = low; gives_few = high }

-- item j of firing m is among those that the first firings take
pub item_of_firing : (d k m j : ℕ) → j < d → m < k → m * d + j < d * k
item_of_firing d k m j within before = grind arith

pub keep_one_in_n-lawful : (t : ItemType) (n : ℕ) → 1 ≤ n → n ≤ 1024 → IsLawful (keep_one_in_n t n)
keep_one_in_n-lawful t n low high =
    shaped-lawful _ _ _ _ _ _ _ _ _ _ (down n low high) (omega arith) (omega arith) refl (λ ts xs. refl)
    (λ ts xs p m h. IsItem-item t (input xs 0) (m * n + n - 1) (AreItems-input t xs 0 h))
    (λ ts us xs ys k p m settings inputs h.
    let there : m * n + (n - 1) < n * k = item_of_firing n k m (n - 1) (omega arith) (omega arith) in
    item-same (input xs 0) (input ys 0) (n * k) (m * n + n - 1) (inputs.items 0) (omega arith))
    (λ ts us xs ys k settings inputs. refl)

-- item m of the output is kept from firing m / give, and there it is among those that the firing takes
pub kept_item : (take_ give from k n : ℕ) → 1 ≤ give → from + give ≤ take_ → n < give * k
    → n / give * take_ + from + n % give < take_ * k
kept_item take_ give from k n some within h =
    let rest : n % give < give = omega (arith, some) in
    let firing : n / give < k = div_below n give k (omega arith) (omega arith) in
    let there : n / give * take_ + (from + n % give) < take_ * k = item_of_firing take_ k (n / give) (from + n % give)
    (omega (arith, rest)) firing in
    omega (arith, there)

pub keep_m_in_n-lawful : (t : ItemType) (m n offset : ℕ) → IsKept m n offset → IsLawful (keep_m_in_n t m n offset)
keep_m_in_n-lawful t m n offset is =
    shaped-lawful _ _ _ _ _ _ _ _ _ _
    (record {
      takes_some = omega (arith, is.some, is.within);
      takes_few = is.few;
      gives_some = is.some;
      gives_few = omega (arith, is.within, is.few);
    })
    (omega arith) (omega arith) refl (λ ts xs. refl)
    (λ ts xs p k h. IsItem-item t (input xs 0) (k / m * n + offset + k % m) (AreItems-input t xs 0 h))
    (λ ts us xs ys k p j settings inputs h.
    item-same (input xs 0) (input ys 0) (n * k) (j / m * n + offset + j % m) (inputs.items 0)
    (kept_item n m offset k j is.some is.within h))
    (λ ts us xs ys k settings inputs. refl)

pub integrate-lawful : (t : ItemType) (n : ℕ) → 1 ≤ n → n ≤ 1024 → IsLawful (integrate t n)
integrate-lawful t n low high =
    shaped-lawful _ _ _ _ _ _ _ _ _ _ (down n low high) (omega arith) (omega arith) refl (λ ts xs. refl)
    (λ ts xs p m h. IsItem-wrap t _)
    (λ ts us xs ys k p m settings inputs h.
    ap (wrap t) (sum_below-same n _ _ (λ j l. item-same (input xs 0) (input ys 0) (n * k) (m * n + j) (inputs.items 0)
    (item_of_firing n k m j l (omega arith)))))
    (λ ts us xs ys k settings inputs. refl)

-- items of a frame of items, and frames that agree
AreItems-frame : (t : ItemType) (n : ℕ) (xs : List ℤ) (k : ℕ) → AreItems t xs → AreItems t (frame n xs k)
AreItems-frame t n xs k are =
    λ j d l.
    let near : j < n = omega (arith, l, length-listed n (λ i. item xs (k * n + i))) in
    subst (IsItem t) (sym (get_or-map_numbers (λ i. item xs (k * n + i)) 0 n j d near))
    (IsItem-item t xs (k * n + (0 + j)) are)

pub frame-same : (n : ℕ) (xs ys : List ℤ) (a b : ℕ) → ((j : ℕ) → j < n → item xs (a * n + j) ≡ item ys (b * n + j))
    → frame n xs a ≡ frame n ys b
frame-same n xs ys a b same = map-same (λ j. item xs (a * n + j)) (λ j. item ys (b * n + j)) 0 n
    (λ j from to. same j (omega arith))

pub frame_minimum-lawful : (t : ItemType) (n : ℕ) → 1 ≤ n → n ≤ 1024 → IsLawful (frame_minimum t n)
frame_minimum-lawful t n low high =
    shaped-lawful _ _ _ _ _ _ _ _ _ _ (down n low high) (omega arith) (omega arith) refl (λ ts xs. refl)
    (λ ts xs p m h. IsItem-least_up_to t (greatest_of t) (frame n (input xs 0) m) (IsItem-greatest t)
    (AreItems-frame t n (input xs 0) m (AreItems-input t xs 0 h)))
    (λ ts us xs ys k p m settings inputs h.
    ap (least_up_to (greatest_of t)) (frame-same n (input xs 0) (input ys 0) m m (λ j l.
    item-same (input xs 0) (input ys 0) (n * k) (m * n + j) (inputs.items 0) (item_of_firing n k m j l (omega arith)))))
    (λ ts us xs ys k settings inputs. refl)

pub frame_maximum-lawful : (t : ItemType) (n : ℕ) → 1 ≤ n → n ≤ 1024 → IsLawful (frame_maximum t n)
frame_maximum-lawful t n low high =
    shaped-lawful _ _ _ _ _ _ _ _ _ _ (down n low high) (omega arith) (omega arith) refl (λ ts xs. refl)
    (λ ts xs p m h. IsItem-greatest_down_to t (least_of t) (frame n (input xs 0) m) (IsItem-least t)
    (AreItems-frame t n (input xs 0) m (AreItems-input t xs 0 h)))
    (λ ts us xs ys k p m settings inputs h.
    ap (greatest_down_to (least_of t)) (frame-same n (input xs 0) (input ys 0) m m (λ j l.
    item-same (input xs 0) (input ys 0) (n * k) (m * n + j) (inputs.items 0) (item_of_firing n k m j l (omega arith)))))
    (λ ts us xs ys k settings inputs. refl)

pub argmax-lawful : (t : ItemType) (n : ℕ) → 1 ≤ n → n ≤ 1024 → IsLawful (argmax t n)
argmax-lawful t n low high =
    shaped-lawful _ _ _ _ _ _ _ _ _ _ (down n low high) (omega arith) (omega arith) refl (λ ts xs. refl)
    (λ ts xs p m h. IsItem-wrap t _)
    (λ ts us xs ys k p m settings inputs h.
    ap (λ zs. wrap t (pos (place_of_greatest t zs))) (frame-same n (input xs 0) (input ys 0) m m (λ j l.
    item-same (input xs 0) (input ys 0) (n * k) (m * n + j) (inputs.items 0) (item_of_firing n k m j l (omega arith)))))
    (λ ts us xs ys k settings inputs. refl)

pub repeat-lawful : (t : ItemType) (n : ℕ) → 1 ≤ n → n ≤ 1024 → IsLawful (repeat t n)
repeat-lawful t n low high =
    shaped-lawful _ _ _ _ _ _ _ _ _ _ (up n low high) (omega arith) (omega arith) refl (λ ts xs. refl)
    (λ ts xs p m h. IsItem-item t (input xs 0) (m / n) (AreItems-input t xs 0 h))
    (λ ts us xs ys k p m settings inputs h. item-same (input xs 0) (input ys 0) (1 * k) (m / n) (inputs.items 0)
    (div_below m n (1 * k) (omega arith) (omega arith)))
    (λ ts us xs ys k settings inputs. refl)

pub interleave-lawful : (t : ItemType) (n : ℕ) → 1 ≤ n → n ≤ 1024 → IsLawful (interleave t n)
interleave-lawful t n low high =
    shaped-lawful _ _ _ _ _ _ _ _ _ _ (up n low high) low (omega arith) refl (λ ts xs. refl)
    (λ ts xs p m h. IsItem-item t (input xs (m % n)) (m / n) (AreItems-input t xs (m % n) h))
    (λ ts us xs ys k p m settings inputs h.
    item-same (input xs (m % n)) (input ys (m % n)) (1 * k) (m / n) (inputs.items (m % n))
    (div_below m n (1 * k) (omega arith) (omega arith)))
    (λ ts us xs ys k settings inputs. refl)

-- a number where a test holds, else zero
IsItem-if : (t : ItemType) (b : Bool) (z : ℤ) → IsItem t z → IsItem t (if b then z else pos 0)
IsItem-if t true z h = h
IsItem-if t false z h = IsItem-zero t

if-same : (p n : ℕ) (x y : ℤ) → (p < n → x ≡ y) → (if nat_lt p n then x else pos 0) ≡ (if nat_lt p n then y else pos 0)
if-same p n x y same = grind (arith, nat_tests)

pub deinterleave-lawful : (t : ItemType) (n : ℕ) → 1 ≤ n → n ≤ 1024 → IsLawful (deinterleave t n)
deinterleave-lawful t n low high =
    shaped-lawful _ _ _ _ _ _ _ _ _ _ (down n low high) (omega arith) (omega arith) refl (λ ts xs. refl)
    (λ ts xs p m h. IsItem-if t (nat_lt p n) _ (IsItem-item t (input xs 0) (m * n + p) (AreItems-input t xs 0 h)))
    (λ ts us xs ys k p m settings inputs h.
    if-same p n _ _ (λ l. item-same (input xs 0) (input ys 0) (n * k) (m * n + p) (inputs.items 0)
    (item_of_firing n k m p l (omega arith))))
    (λ ts us xs ys k settings inputs. refl)

-- a number of two, chosen by a test
IsItem-choice : (t : ItemType) (b : Bool) (y z : ℤ) → IsItem t y → IsItem t z → IsItem t (if b then y else z)
IsItem-choice t true y z h g = h
IsItem-choice t false y z h g = g

-- an item of one of three
IsItem-inserted : (t : ItemType) (values : List ℤ) (offset : ℕ) (xs : List ℤ) (a r : ℕ) → AreItems t values
    → AreItems t xs → IsItem t (inserted values offset xs a r)
IsItem-inserted t values offset xs a r mine h =
    IsItem-choice t (nat_lt r offset) _ _ (IsItem-item t xs (a + r) h)
    (IsItem-choice t (nat_lt r (offset + length values)) _ _ (IsItem-item t values (r - offset) mine)
    (IsItem-item t xs (a + (r - length values)) h))

-- a period of streams that agree in its items
pub inserted-same :
    (values : List ℤ) (offset rest : ℕ) (xs ys : List ℤ) (a b r : ℕ) → offset ≤ rest → r < rest + length values →
    ((j : ℕ) → j < rest → item xs (a + j) ≡ item ys (b + j)) → inserted values offset xs a r
    ≡ inserted values offset ys b r
inserted-same values offset rest xs ys a b r whole h same =
    choices (nat_lt r offset) (nat_lt r (offset + length values)) refl refl
  where
    choices : (c d : Bool) → nat_lt r offset ≡ c → nat_lt r (offset + length values) ≡ d →
        (if c then item xs (a + r) else if d then item values (r - offset) else item xs (a + (r - length values)))
        ≡ (if c then item ys (b + r) else if d then item values (r - offset) else item ys (b + (r - length values)))
    choices true d e f = same r (grind (arith, nat_tests))
    choices false true e f = refl
    choices false false e f = same (r - length values) (grind (arith, nat_tests))

pub insert-lawful : (t : ItemType) (values : List ℤ) (period offset : ℕ) → IsInsert t values period offset
    → IsLawful (insert t values period offset)
insert-lawful t values period offset is =
    shaped-lawful _ _ _ _ _ _ _ _ _ _
    (record {
      takes_some = omega (arith, is.above);
      takes_few = omega (arith, is.most);
      gives_some = omega
          (arith, is.above);
      gives_few = is.most;
    })
    (omega arith) (omega arith) refl (λ ts xs. refl)
    (λ ts xs p k h. IsItem-inserted t values offset (input xs 0) (k / period * rest) (k % period) is.items
    (AreItems-input t xs 0 h))
    (λ ts us xs ys k p j settings inputs h.
    inserted-same values offset rest (input xs 0) (input ys 0) (j / period * rest) (j / period * rest) (j % period)
    is.whole (within j) (λ i l.
    item-same (input xs 0) (input ys 0) (rest * k) (j / period * rest + i) (inputs.items 0)
    (item_of_firing rest k (j / period) i l (div_below j period k (omega (arith, is.above)) (omega arith)))))
    (λ ts us xs ys k settings inputs. refl)
  where
    rest : ℕ
    rest = period - length values

    within : (j : ℕ) → j % period < period - length values + length values
    within j = let less : j % period < period = omega (arith, is.above) in omega (arith, is.above, less)

-- each number of an order is a place of it
pub from_place-within : (order : List ℕ) (j : ℕ) → IsOrder order → j < length order → from_place order j < length order
from_place-within order j is h = is.within j 0 h

pub permute-lawful : (t : ItemType) (order : List ℕ) → IsOrder order → IsLawful (permute t order)
permute-lawful t order is =
    shaped-lawful _ _ _ _ _ _ _ _ _ _
    (record {
      takes_some = is.some;
      takes_few = omega (arith, is.few);
      gives_some = is.some;
      gives_few = omega
          (arith, is.few);
    })
    (omega arith) (omega arith) refl (λ ts xs. refl)
    (λ ts xs p k h. IsItem-item t (input xs 0) (k / length order * length order + from_place order (k % length order))
    (AreItems-input t xs 0 h))
    (λ ts us xs ys k p j settings inputs h.
    let n = length order in
    let less : j % n < n = omega (arith, is.some) in
    item-same (input xs 0) (input ys 0) (n * k) (j / n * n + from_place order (j % n)) (inputs.items 0)
    (item_of_firing n k (j / n) (from_place order (j % n)) (from_place-within order (j % n) is less)
    (div_below j n k (omega (arith, is.some)) (omega arith))))
    (λ ts us xs ys k settings inputs. refl)

pub pattern-lawful : (t : ItemType) (values : List ℤ) → AreItems t values → IsLawful (pattern t values)
pattern-lawful t values are =
    shaped-lawful _ _ _ _ _ _ _ _ _ _ one_for_one (omega arith) (omega arith) refl (λ ts xs. refl)
    (λ ts xs p m h. IsItem-item t values (m % length values) are)
    (λ ts us xs ys k p m settings inputs h. refl)
    (λ ts us xs ys k settings inputs. refl)

pub counter-lawful : (t : ItemType) (n : ℕ) → IsLawful (counter t n)
counter-lawful t n =
    shaped-lawful _ _ _ _ _ _ _ _ _ _ one_for_one (omega arith) (omega arith) refl (λ ts xs. refl)
    (λ ts xs p m h. IsItem-wrap t (pos (m % n)))
    (λ ts us xs ys k p m settings inputs h. refl)
    (λ ts us xs ys k settings inputs. refl)

pub head-lawful : (t : ItemType) (n : ℕ) → IsLawful (head t n)
head-lawful t n =
    record {
      role = omega arith;
      counts = λ p. (
        refl,
        IsAtRate-at_rate (head t n) p 1 1 (omega arith) (omega arith) (omega arith) (omega arith)
            (λ k. refl) (λ k. refl) (λ s. omega arith),
      );
      reads_now = omega arith;
      own = refl;
      settable = λ h. refl;
      starts = λ ts xs. refl;
      in_range = λ ts xs p m port wanted h. IsItem-item t (input xs 0) m (AreItems-input t xs 0 h);
      local = λ ts us xs ys k p m port settings inputs h. item-same (input xs 0) (input ys 0) (1 * k) m (inputs.items 0)
          h;
      local_word = λ ts us xs ys k settings inputs. refl;
    }

pub skiphead-lawful : (t : ItemType) (n : ℕ) → IsLawful (skiphead t n)
skiphead-lawful t n =
    record {
      role = omega arith;
      counts = λ p. (λ k. refl, λ k. refl, λ s. refl);
      reads_now = omega arith;
      own = refl;
      settable = λ h. (cc);
      starts = λ ts xs. refl;
      in_range = λ ts xs p m port wanted h. IsItem-item t (input xs 0) (m + n) (AreItems-input t xs 0 h);
      local = λ ts us xs ys k p m port settings inputs h. item-same (input xs 0) (input ys 0) k (m + n) (inputs.items 0)
          (omega arith);
      local_word = λ ts us xs ys k settings inputs. refl;
    }

-- a delayed item: among the zeros, or among the items taken
delayed-same : (x y : List ℤ) (n k m : ℕ) → take (k - n) x ≡ take (k - n) y → m < k → item_before x m n
    ≡ item_before y m n
delayed-same x y n k m same h = before_cases (nat_le n m) refl
  where
    before_cases : (b : Bool) → nat_le n m ≡ b → (if b then item x (m - n) else pos 0)
        ≡ (if b then item y (m - n) else pos 0)
    before_cases true le = item-same x y (k - n) (m - n) same (grind (arith, nat_tests))
    before_cases false more = refl

pub delay-lawful : (t : ItemType) (n : ℕ) → n ≤ 65536 → IsLawful (delay t n)
delay-lawful t n few =
    record {
      role = omega arith;
      counts = λ p. (few, λ k. refl, λ k. refl, λ s. refl);
      reads_now = omega arith;
      own = refl;
      settable = λ h. (cc);
      starts = λ ts xs. refl;
      in_range = λ ts xs p m port wanted h. IsItem-if t (nat_le n m) _
          (IsItem-item t (input xs 0) (m - n) (AreItems-input t xs 0 h));
      local = λ ts us xs ys k p m port settings inputs h. delayed-same (input xs 0) (input ys 0) n k m (inputs.items 0)
          h;
      local_word = λ ts us xs ys k settings inputs. refl;
    }

-- the turns before an input's, and a place in its own, lie within a round
pub turns_before : (lengths : List ℕ) (p r : ℕ) → r < turn_of lengths p → sum (take p lengths) + r ≤ sum lengths
turns_before [] zero r h = omega arith
turns_before [] (suc p) r h = omega arith
turns_before (l ∷ ls) zero r h = let within : r < l = h in omega (arith, sum-cons l ls)
turns_before (l ∷ ls) (suc p) r h = omega (arith, sum-cons l (take p ls), sum-cons l ls, turns_before ls p r h)

-- a turn has some items, and not too many
pub turn_some : (lengths : List ℕ) (p : ℕ) → IsMux lengths → 1 ≤ turn_of lengths p
turn_some lengths p mux =
    elim (cases_lt p (length lengths)) as (λ _. 1 ≤ turn_of lengths p) [
      | inl l ↦ (mux.each p 1 l).0
      | inr g ↦ omega (arith, get_or_past lengths p 1 g)
    ]

pub turn_few : (lengths : List ℕ) (p : ℕ) → IsMux lengths → turn_of lengths p ≤ 1024
turn_few lengths p mux =
    elim (cases_lt p (length lengths)) as (λ _. turn_of lengths p ≤ 1024) [
      | inl l ↦ (mux.each p 1 l).1
      | inr g ↦ omega (arith, get_or_past lengths p 1 g)
    ]

-- a round has some items
pub round_some : (lengths : List ℕ) → 1 ≤ length lengths → All (λ l. (1 ≤ l) × (l ≤ 1024)) lengths → 1 ≤ sum lengths
round_some [] some each = absurd (omega arith)
round_some (l ∷ ls) some each = omega (arith, sum-cons l ls, (each 0 0 (omega arith)).0)

IsItem-round_item : (t : ItemType) (ls : List ℕ) (p : ℕ) (xs : List (List ℤ)) (g r : ℕ) → All (AreItems t) xs
    → IsItem t (round_item ls p xs g r)
IsItem-round_item t [] p xs g r h = IsItem-zero t
IsItem-round_item t (l ∷ ls) p xs g r h =
    IsItem-choice t (nat_lt r l) _ _ (IsItem-item t (input xs p) (g * l + r) (AreItems-input t xs p h))
    (IsItem-round_item t ls (suc p) xs g (r - l) h)

choice-same : (r l : ℕ) (x y v w : ℤ) → (r < l → x ≡ y) → v ≡ w → (if nat_lt r l then x else v)
    ≡ (if nat_lt r l then y else w)
choice-same r l x y v w same rest = grind (arith, nat_tests)

-- rounds of inputs that agree in what the first firings take
pub round_item-same :
    (ls : List ℕ) (p : ℕ) (xs ys : List (List ℤ)) (g r k : ℕ) → g < k →
    ((q j n : ℕ) → j ≡ p + q → n < turn_of ls q * k → item (input xs j) n ≡ item (input ys j) n)
    → round_item ls p xs g r ≡ round_item ls p ys g r
round_item-same [] p xs ys g r k h same = refl
round_item-same (l ∷ ls) p xs ys g r k h same =
    choice-same r l _ _ _ _ (λ within. same 0 p (g * l + r) (omega arith) (item_of_firing l k g r within h))
    (round_item-same ls (suc p) xs ys g (r - l) k h (λ q j n e there. same (suc q) j n (omega (arith, e)) there))

pub stream_mux-lawful : (t : ItemType) (lengths : List ℕ) → IsMux lengths → IsLawful (stream_mux t lengths)
stream_mux-lawful t lengths mux =
    record {
      role = mux.some;
      counts = λ p. (
        refl,
        record {
          takes_some = turn_some lengths p mux;
          takes_few = turn_few lengths p mux;
          gives_some = round;
          gives_few = mux.all;
          taken = λ k. refl;
          given = λ k. refl;
          not_early = λ s. omega arith;
          not_far = λ s. omega (arith, turns_before lengths p (s % turn_of lengths p) (rest_less p s));
        },
      );
      reads_now = omega arith;
      own = refl;
      settable = λ h. refl;
      starts = λ ts xs. refl;
      in_range = λ ts xs p n port wanted h. IsItem-round_item t lengths 0 xs (n / sum lengths) (n % sum lengths) h;
      local = λ ts us xs ys k p n port settings inputs h.
          round_item-same lengths 0 xs ys (n / sum lengths) (n % sum lengths) k
          (div_below n (sum lengths) k (omega (arith, round)) (omega arith))
          (λ q j m e there.
          item-same (input xs j) (input ys j) (turn_of lengths j * k) m (inputs.items j)
          (subst (λ (z : ℕ). m < turn_of lengths z * k) (omega (arith, e)) there));
      local_word = λ ts us xs ys k settings inputs. refl;
    }
  where
    round : 1 ≤ sum lengths
    round = round_some lengths mux.some mux.each

    rest_less : (p s : ℕ) → s % turn_of lengths p < turn_of lengths p
    rest_less p s = omega (arith, turn_some lengths p mux)
