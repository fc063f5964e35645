-- Lemmas by which kinds are shown lawful.
use Rattle.std.specs.Prelude.{ℕ, ◌+◌, ◌-◌, ◌*◌, ◌/◌, ◌%◌, ◌<◌, ◌≤◌, ◌≡◌, ℤ, pos, negsuc, zero, suc, List, [], ◌∷◌, length, map, take, sum, All, Option, None, MatchOption, nat_le, if◌then◌else◌, refl}
use Rattle.std.proofs.Common.{sym, ◌∙◌, ap, ap₂, subst, arith, inl, inr, get_or}
use Rattle.std.proofs.lemmas.Int.{ints}
use Rattle.std.proofs.lemmas.List.{get_or-take, get_or_past}
use Rattle.std.proofs.lemmas.Bool.{cases_lt}
use Rattle.std.proofs.lemmas.Bool.Decides.{nat_tests}
use Rattle.std.proofs.lemmas.List.Sums.{sum_by-cons}
use Rattle.std.proofs.lemmas.Nat.{le-div, div_below}
use Rattle.stream_model.specs.declared.vocabulary.ItemType.{ItemType}
use Rattle.stream_model.specs.declared.vocabulary.ItemType.TheVariants.{Byte, Short, Int}
use Rattle.stream_model.specs.Numbers.{IsItem, AreItems, residue, centred, wrap, sat, total}
use Rattle.stream_model.specs.Lists.{numbers_from, item, item_before, listed, sum_below}
use Rattle.stream_model.specs.Tags.{place_at_rate}
use Rattle.stream_model.specs.Settings.{Value, Held}
use Rattle.stream_model.specs.Meaning.{Meaning, input, IsAtRate, IsLawful, IsWanted, given_items, SameInputs, SameSettings}
use Rattle.stream_model.specs.Shapes.{at_rate}
use Rattle.stream_model.specs.declared.vocabulary.Signature.{Signature}
use Rattle.stream_model.specs.declared.vocabulary.Wanted.{Wanted}

-- zero lies in every type's range
pub IsItem-zero : (t : ItemType) → IsItem t (pos 0)
IsItem-zero Byte = record { above = omega (arith, ints); below = omega (arith, ints) }
IsItem-zero Short = record { above = omega (arith, ints); below = omega (arith, ints) }
IsItem-zero Int = record { above = omega (arith, ints); below = omega (arith, ints) }

-- a residue lies below its modulus
pub residue-less : (z : ℤ) (m : ℕ) → 0 < m → residue z m < m
residue-less (pos n) m h = omega arith
residue-less (negsuc n) m h = omega arith

-- a centred residue lies in the range of half the modulus on each side
pub IsItem-centred_short : (r : ℕ) → r < 65536 → IsItem Short (centred 65536 r)
IsItem-centred_short r h = record { above = grind (arith, ints, nat_tests); below = grind (arith, ints, nat_tests) }

pub IsItem-centred_int : (r : ℕ) → r < 4294967296 → IsItem Int (centred 4294967296 r)
IsItem-centred_int r h = record { above = grind (arith, ints, nat_tests); below = grind (arith, ints, nat_tests) }

-- a wrapped number lies in its type's range
pub IsItem-wrap : (t : ItemType) (z : ℤ) → IsItem t (wrap t z)
IsItem-wrap Byte z = let h : residue z 256 < 256 = residue-less z 256 (omega arith) in
    record { above = omega (arith, ints); below = omega (arith, ints) }
IsItem-wrap Short z = IsItem-centred_short (residue z 65536) (residue-less z 65536 (omega arith))
IsItem-wrap Int z = IsItem-centred_int (residue z 4294967296) (residue-less z 4294967296 (omega arith))

-- a saturated number lies in its type's range
pub IsItem-sat : (t : ItemType) (z : ℤ) → IsItem t (sat t z)
IsItem-sat Byte z = record { above = grind (arith, ints); below = grind (arith, ints) }
IsItem-sat Short z = record { above = grind (arith, ints); below = grind (arith, ints) }
IsItem-sat Int z = record { above = grind (arith, ints); below = grind (arith, ints) }

-- an item of a list in the type's range lies in it, and so does what is past the end
pub IsItem-item : (t : ItemType) (x : List ℤ) (n : ℕ) → AreItems t x → IsItem t (item x n)
IsItem-item t x n h = elim (cases_lt n (length x)) as (λ _. IsItem t (item x n))
    [ inl l ↦ h n (pos 0) l | inr g ↦ subst (IsItem t) (sym (get_or_past x n (pos 0) g)) (IsItem-zero t) ]

-- the items of each input lie in the type's range
pub AreItems-input : (t : ItemType) (xs : List (List ℤ)) (p : ℕ) → All (AreItems t) xs → AreItems t (input xs p)
AreItems-input t xs p h =
    elim (cases_lt p (length xs)) as (λ _. AreItems t (input xs p)) [
      | inl l ↦ h p [] l
      | inr g ↦ subst (AreItems t) (sym (get_or_past xs p [] g)) (λ k d l. absurd (omega arith))
    ]

-- lists with the same first items have the same item among these
pub item-same : (x y : List ℤ) (k n : ℕ) → take k x ≡ take k y → n < k → item x n ≡ item y n
item-same x y k n e h = sym (get_or-take k x n (pos 0) h) ∙ ap (λ (z : List ℤ). get_or z n (pos 0)) e ∙ get_or-take k y
    n (pos 0) h

-- item q * d + r of an input, at i items for d: not before the firing that takes it
early_at : (d i s q r : ℕ) → s ≡ d * q + r → q * i * (2 * d) ≤ 2 * s * i + d
early_at d i s q r whole = rw whole (omega arith)

-- and at most one firing's items after it
far_at : (d i s q r e : ℕ) → d ≡ r + 1 + e → s ≡ d * q + r → 2 * s * i + d < (q * i + i + 1) * (2 * d)
far_at d i s q r e above whole = rw (whole, above) (omega arith)

-- a tag goes to no place before those of the firing that takes its item
pub place-not_early : (d i s : ℕ) → 1 ≤ d → s / d * i ≤ place_at_rate d i s
place-not_early d i s h = le-div (s / d * i) (2 * s * i + d) (2 * d) (omega arith)
    (early_at d i s (s / d) (s % d) (omega arith))

-- and to none beyond the place after them
pub place-not_far : (d i s : ℕ) → 1 ≤ d → place_at_rate d i s ≤ s / d * i + i
place-not_far d i s h =
    let below_next : place_at_rate d i s < s / d * i + i + 1 =
    div_below (2 * s * i + d) (2 * d) (s / d * i + i + 1) (omega arith)
    (far_at d i s (s / d) (s % d) (d - s % d - 1) (omega arith) (omega arith)) in
    omega arith

-- a block at a rate has its counts
pub IsAtRate-at_rate : (m : Meaning) (p d i : ℕ) → 1 ≤ d → d ≤ 1024 → 1 ≤ i → i ≤ 1024 → ((k : ℕ) → m.taken p k ≡ d * k)
    → ((k : ℕ) → m.given k ≡ i * k) → ((s : ℕ) → m.place p s ≡ place_at_rate d i s) → IsAtRate m p d i
IsAtRate-at_rate m p d i d_some d_few i_some i_few takes gives places =
    record {
      takes_some = d_some;
      takes_few = d_few;
      gives_some = i_some;
      gives_few = i_few;
      taken = takes;
      given = gives;
      not_early = λ s. rw (places s) (place-not_early d i s d_some);
      not_far = λ s. rw (places s) (place-not_far d i s d_some);
    }

-- items that agree where k firings at an item a firing take are the same
pub input-same : (m : Meaning) (k p n : ℕ) (xs ys : List (List ℤ)) → SameInputs m k xs ys → n < m.taken p k
    → item (input xs p) n ≡ item (input ys p) n
input-same m k p n xs ys same h = item-same (input xs p) (input ys p) (m.taken p k) n (same.items p) h

-- the numbers of a rate lie within their limits
pub record IsRate (d i : ℕ) : Type 0 where
  pub takes_some : 1 ≤ d
  pub takes_few : d ≤ 1024
  pub gives_some : 1 ≤ i
  pub gives_few : i ≤ 1024

-- an item for an item
pub one_for_one : IsRate 1 1
one_for_one = record {
  takes_some = omega arith;
  takes_few = omega arith;
  gives_some = omega arith;
  gives_few = omega
      arith;
}

-- a block at a rate, with a history, a setting, a memory and an equation
abbrev pub shaped : Signature → Signature → ℕ → ℕ → ℕ → Option Wanted → Option Value → ℕ
    → (List Held → List (List ℤ) → ℕ → ℕ) → (List Held → List (List ℤ) → ℕ → ℕ → ℤ) → Meaning
shaped ins outs d i back set mine begin kept gives =
    record (at_rate ins outs d i) { history = back; setting = set; own = mine; start = begin; word = kept; out = gives }

-- such a block is lawful where its parameters, its equation and its memory are
pub shaped-lawful :
    (ins outs : Signature) (d i back : ℕ) (set : Option Wanted) (mine : Option Value) (begin : ℕ)
    (kept : List Held → List (List ℤ) → ℕ → ℕ)
    (gives : List Held → List (List ℤ) → ℕ → ℕ → ℤ) → IsRate d i → 1 ≤ ins.least → 1 ≤ back →
    MatchOption set (mine ≡ None) (λ w. MatchOption mine ⊥ (IsWanted w)) →
    ((ts : List Held) (xs : List (List ℤ)) → kept ts xs 0 ≡ begin) →
    ((ts : List Held) (xs : List (List ℤ)) (p n : ℕ) → All (AreItems ins.item) xs → IsItem outs.item (gives ts xs p n))
    →
    ((ts us : List Held) (xs ys : List (List ℤ)) (k p n : ℕ) → SameSettings
    (shaped ins outs d i back set mine begin kept gives) k ts us →
    SameInputs (shaped ins outs d i back set mine begin kept gives) k xs ys → n < i * k → gives ts xs p n
    ≡ gives us ys p n) →
    ((ts us : List Held) (xs ys : List (List ℤ)) (k : ℕ) → SameSettings
    (shaped ins outs d i back set mine begin kept gives) k ts us →
    SameInputs (shaped ins outs d i back set mine begin kept gives) k xs ys → kept ts xs k ≡ kept us ys k) →
    IsLawful (shaped ins outs d i back set mine begin kept gives)
shaped-lawful ins outs d i back set mine begin kept gives rate used reads owned starts in_range local local_word =
    record {
      role = used;
      counts = λ p. (
        refl,
        IsAtRate-at_rate (shaped ins outs d i back set mine begin kept gives) p d i rate.takes_some rate.takes_few
            rate.gives_some
            rate.gives_few (λ k. refl) (λ k. refl) (λ s. refl),
      );
      reads_now = reads;
      own = owned;
      settable = λ h. refl;
      starts = starts;
      in_range = λ ts xs p n port wanted. in_range ts xs p n;
      local = λ ts us xs ys k p n port. local ts us xs ys k p n;
      local_word = local_word;
    }

-- items that agree at each number from a on have one list, and one sum
pub map-same : {X : Type 0} (f g : ℕ → X) (a count : ℕ) → ((j : ℕ) → a ≤ j → j < a + count → f j ≡ g j)
    → map f (numbers_from a count) ≡ map g (numbers_from a count)
map-same f g a zero same = refl
map-same f g a (suc count) same = ap₂ ◌∷◌ (same a (omega arith) (omega arith))
    (map-same f g (a + 1) count (λ j from to. same j (omega arith) (omega arith)))

pub sum_below-same : (count : ℕ) (f g : ℕ → ℤ) → ((j : ℕ) → j < count → f j ≡ g j) → sum_below count f
    ≡ sum_below count g
sum_below-same count f g same = ap total (map-same f g 0 count (λ j from to. same j (omega arith)))

-- the past of an item that is among those that agree
pub past-same : (x y : List ℤ) (k n back : ℕ) → take k x ≡ take k y → n < k → item_before x n back
    ≡ item_before y n back
past-same x y k n back e h = ap (λ z. if nat_le back n then z else pos 0) (item-same x y k (n - back) e (omega arith))

-- an item of a mapped run of numbers, and how many there are
pub get_or-map_numbers : {X : Type 0} (f : ℕ → X) (a count n : ℕ) (d : X) → n < count
    → get_or (map f (numbers_from a count)) n d ≡ f (a + n)
get_or-map_numbers f a zero n d h = absurd (omega arith)
get_or-map_numbers f a (suc count) zero d h = ap f (omega arith)
get_or-map_numbers f a (suc count) (suc n) d h = get_or-map_numbers f (a + 1) count n d (omega arith) ∙ ap f
    (omega arith)

pub length-map_numbers : {X : Type 0} (f : ℕ → X) (a count : ℕ) → length (map f (numbers_from a count)) ≡ count
length-map_numbers f a zero = refl
length-map_numbers f a (suc count) = ap suc (length-map_numbers f (a + 1) count)

-- item n of a list that is given item by item
pub item-listed : (count : ℕ) (f : ℕ → ℤ) (n : ℕ) → n < count → item (listed count f) n ≡ f n
item-listed count f n h = get_or-map_numbers f 0 count n (pos 0) h ∙ ap f (omega arith)

pub length-listed : (count : ℕ) (f : ℕ → ℤ) → length (listed count f) ≡ count
length-listed count f = length-map_numbers f 0 count

-- and of what a block gives
pub item-given_items :
    (m : Meaning) (ts : List Held) (xs : List (List ℤ)) (first count p n : ℕ)
    → n < m.given (first + count) - m.given first →
    item (given_items m ts xs first count p) n ≡ m.out ts xs p (m.given first + n)
item-given_items m ts xs first count p n h = get_or-map_numbers (m.out ts xs p) (m.given first)
    (m.given (first + count) - m.given first) n (pos 0) h

pub length-given_items : (m : Meaning) (ts : List Held) (xs : List (List ℤ)) (first count p : ℕ)
    → length (given_items m ts xs first count p) ≡ m.given (first + count) - m.given first
length-given_items m ts xs first count p = length-map_numbers (m.out ts xs p) (m.given first)
    (m.given (first + count) - m.given first)

-- the sum of a list with one more in front
pub sum-cons : (x : ℕ) (xs : List ℕ) → sum (x ∷ xs) ≡ x + sum xs
sum-cons x xs = sum_by-cons (λ (y : ℕ). y) x xs
