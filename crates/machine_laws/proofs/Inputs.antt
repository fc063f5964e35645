-- What the tests of a claim say of each input and output.
use Rattle.std.proofs.Common.{◌≡◌, ℕ, zero, suc, ◌+◌, ◌<◌, ◌≤◌, Bool, true, false, not, List, [], ◌∷◌, length, map, Option, Some, None, refl, arith, sym, ◌∙◌, subst, inl, inr, get_or, zero-lt-suc}
use Rattle.std.proofs.Math.Nat.{add-zero}
use Rattle.std.specs.Prelude.{nat_le, ◌&&◌}
use Rattle.std.specs.List.{list_all}
use Rattle.std.proofs.lemmas.Bool.{and_parts, or_parts, or_cases, leb-true, leb-false, le-leb}
use Rattle.std.proofs.lemmas.List.FromFn.{get_or-range_with_len, length-range_with_len}
use Rattle.std.proofs.lemmas.List.Folds.{list_all-map}
use Rattle.std.proofs.lemmas.List.Sums.{AllPass-from_list_all, list_all-from_AllPass}
use Rattle.stream_model.specs.Lists.{below}
use Rattle.stream_model.specs.Network.{Node, taken_by, holds_inputs}
use Rattle.stream_model.specs.Claims.{InputCounts, OutputCounts, leaves_room, lacks_for_good, lacks_items, lacks_room}
use Rattle.machine_laws.proofs.Choices.{if_both}

-- what a place without an input reads as
abbrev pub no_input : InputCounts
no_input = record { written = 0; ended = false }

abbrev pub input_at : List InputCounts → ℕ → InputCounts
input_at is p = get_or is p no_input

pub holds-at : (n : Node) (q : ℕ) (is : List InputCounts) (k : ℕ) → holds_inputs n q (map (λ (i : InputCounts). i.written) is) k ≡ true → (p : ℕ) → p < length is → taken_by n (q + p) k ≤ (input_at is p).written
holds-at n q [] k h p in' = absurd (omega arith)
holds-at n q (i ∷ is) k h zero in' = rw add-zero (leb-true _ _ (and_parts _ _ h).0)
holds-at n q (i ∷ is) k h (suc p) in' =
    let e : q + suc p ≡ suc q + p = omega arith in
    let in1 : p < length is = omega arith in
    rw e (holds-at n (suc q) is k (and_parts _ _ h).1 p in1)

-- an ended input that lacks items
pub record Lacks (n : Node) (q : ℕ) (k : ℕ) (is : List InputCounts) : Type 0 where
  pub port : ℕ
  pub used : port < length is
  pub ended : (input_at is port).ended ≡ true
  pub short : (input_at is port).written < taken_by n (q + port) k

lacks-here : (n : Node) (q k : ℕ) (i : InputCounts) (is : List InputCounts) → (i.ended && not (nat_le (taken_by n q k) i.written)) ≡ true → Lacks n q k (i ∷ is)
lacks-here n q k i is e =
    let parts = and_parts _ _ e in
    record { port = 0; used = zero-lt-suc (length is); ended = parts.0; short = rw add-zero (leb-false (taken_by n q k) i.written (not_true (nat_le (taken_by n q k) i.written) parts.1)) }
  where
    not_true : (b : Bool) → not b ≡ true → b ≡ false
    not_true true e = cc
    not_true false e = refl

pub lacks-one : (n : Node) (q k : ℕ) (is : List InputCounts) → lacks_for_good n k q is ≡ true → Lacks n q k is
lacks-one n q k [] e = cc
lacks-one n q k (i ∷ is) e =
    elim (or_cases _ _ e) [
      | inl here ↦ lacks-here n q k i is here
      | inr later ↦ (let one = lacks-one n (suc q) k is later in
          let in1 : suc one.port < length (i ∷ is) = (let u = one.used in omega arith) in
          let same : suc q + one.port ≡ q + suc one.port = omega arith in
          record { port = suc one.port; used = in1; ended = one.ended; short = subst (λ p. (input_at is one.port).written < taken_by n p k) same one.short })
    ]

-- where no ended input lacks items, and no other does, none does
pub lacks-none : (n : Node) (q k : ℕ) (is : List InputCounts) → lacks_for_good n k q is ≡ false → ((p : ℕ) → p < length is → (input_at is p).ended ≡ false → taken_by n (q + p) k ≤ (input_at is p).written) → lacks_items n k q is ≡ None
lacks-none n q k [] e enough = refl
lacks-none n q k (i ∷ is) e enough =
    let parts = or_parts (i.ended && not (nat_le (taken_by n q k) i.written)) (lacks_for_good n k (suc q) is) e in
    if_both (nat_le (taken_by n q k) i.written) (lacks_items n k (suc q) is) (Some q) (λ (o : Option ℕ). o ≡ None)
    (λ _. lacks-none n (suc q) k is parts.1
    (λ p in1 lasts. let same : q + suc p ≡ suc q + p = omega arith in
    let in2 : suc p < length (i ∷ is) = omega arith in
    subst (λ r. taken_by n r k ≤ (input_at is p).written) same (enough (suc p) in2 lasts)))
    (λ f. absurd (short (nat_le (taken_by n q k) i.written) i.ended refl refl f parts.0))
  where
    short : (le ended : Bool) → nat_le (taken_by n q k) i.written ≡ le → i.ended ≡ ended → le ≡ false → (ended && not le) ≡ false → ⊥
    short true ended e1 e2 e3 e4 = cc
    short false true e1 e2 e3 e4 = cc
    short false false e1 e2 e3 e4 =
        let there : taken_by n q k ≤ i.written = rw add-zero at (enough 0 (zero-lt-suc (length is)) e2) in
        let bad = le-leb (taken_by n q k) i.written there in cc

pub room-none : (n : Node) (k q : ℕ) (os : List OutputCounts) → list_all (leaves_room n k) os ≡ true → lacks_room n k q os ≡ None
room-none n k q [] e = refl
room-none n k q (o ∷ os) e =
    if_both (leaves_room n k o) (lacks_room n k (suc q) os) (Some q) (λ (r : Option ℕ). r ≡ None)
    (λ _. room-none n k (suc q) os (and_parts (leaves_room n k o) (list_all (leaves_room n k) os) e).1)
    (λ f. let here : leaves_room n k o ≡ true = (and_parts (leaves_room n k o) (list_all (leaves_room n k) os) e).0 in absurd (cc))

-- a test of all numbers below n
pub below-at : (test : ℕ → Bool) (n : ℕ) → list_all test (below n) ≡ true → (p : ℕ) → p < n → test p ≡ true
below-at test n all p in' =
    subst (λ i. test i ≡ true) (get_or-range_with_len 0 n p 0 in' ∙ omega arith) (AllPass-from_list_all test (below n) all p 0 (rw length-range_with_len in'))

pub below-from : (test : ℕ → Bool) (n : ℕ) → ((p : ℕ) → p < n → test p ≡ true) → list_all test (below n) ≡ true
below-from test n each =
    list_all-from_AllPass test (below n)
    (λ p d lt.
    let in' : p < n = rw length-range_with_len at lt in
    let same : get_or (below n) p d ≡ p = get_or-range_with_len 0 n p d in' ∙ omega arith in
    subst (λ i. test i ≡ true) (sym same) (each p in'))

-- and of a list that is made of them
module _ {A : Type 0} (test : A → Bool) (f : ℕ → A) (n : ℕ) where
  pub all_below-at : list_all test (map f (below n)) ≡ true → (p : ℕ) → p < n → test (f p) ≡ true
  all_below-at all = below-at (λ p. test (f p)) n (sym (list_all-map test f (below n)) ∙ all)

  pub all_below-from : ((p : ℕ) → p < n → test (f p) ≡ true) → list_all test (map f (below n)) ≡ true
  all_below-from each = list_all-map test f (below n) ∙ below-from (λ p. test (f p)) n each
