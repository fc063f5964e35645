-- Numbers that are fed to a source, as items of its type.
use Rattle.std.proofs.Common.{◌≡◌, ℕ, Bool, true, false, ◌&&◌, not, nat_lt, if◌then◌else◌, T, List, [], ◌∷◌, ℤ, length, Some, Result, Ok, Err, refl, ap, ◌∙◌, sym, subst, lt-ltb}
use Rattle.std.specs.Prelude.{int_le}
use Rattle.std.specs.Int.Signed.{le_z_yes}
use Rattle.std.proofs.lemmas.List.Elements.{All-nil, All-cons, All-head, All-tail}
use Rattle.stream_model.specs.declared.vocabulary.ItemType.{ItemType}
use Rattle.stream_model.specs.Numbers.{IsItem, AreItems, least_of, greatest_of}
use Rattle.stream_model.specs.Tags.{Mark}
use Rattle.stream_model.specs.Network.{Network, State, role_at, is_source}
use Rattle.stream_model.specs.Machine as machine
use Rattle.stream_model.specs.Machine.{Refused, feed_of}
use Rattle.plant_faults.specs.declared.fault.PlantFault.{PlantFault}
use Rattle.plant_faults.specs.declared.fault.PlantFault.TheVariants.{NoSuchBlock, NotSource}
use Rattle.plant.specs.Answers.{refusal_of, source_type_of}
use Rattle.plant.specs.Feeding.{are_items, given_type, feed_numbers}
use Rattle.plant.proofs.Refusals.{IsSource, feed-refused}

passed : (x : Bool) → T x → x ≡ true
passed true h = refl
passed false h = absurd h

both_true : (x y : Bool) → x ≡ true → y ≡ true → (x && y) ≡ true
both_true true true p q = refl
both_true true false p q = cc
both_true false y p q = cc

both : (x y : Bool) → (x && y) ≡ true → (x ≡ true) × (y ≡ true)
both true true e = (refl, refl)
both true false e = cc
both false y e = cc

-- the test of the range passes exactly where each number lies in it
pub are_items_pass : (t : ItemType) (xs : List ℤ) → AreItems t xs → are_items t xs ≡ true
are_items_pass t [] h = refl
are_items_pass t (x ∷ xs) h =
    let first : IsItem t x = All-head (IsItem t) x xs h in
    both_true _ _ (both_true _ _ (passed _ first.above.le) (passed _ first.below.le)) (are_items_pass t xs (All-tail (IsItem t) x xs h))

are_items_passed : (t : ItemType) (xs : List ℤ) → are_items t xs ≡ true → AreItems t xs
are_items_passed t [] e = All-nil (IsItem t)
are_items_passed t (x ∷ xs) e =
    let parts = both (int_le (least_of t) x && int_le x (greatest_of t)) (are_items t xs) e in
    let ends = both (int_le (least_of t) x) (int_le x (greatest_of t)) parts.0 in
    All-cons (IsItem t) x xs (record { above = le_z_yes (subst T (sym ends.0) tt); below = le_z_yes (subst T (sym ends.1) tt) }) (are_items_passed t xs parts.1)

pub are_items_fail : (t : ItemType) (xs : List ℤ) → (AreItems t xs → ⊥) → are_items t xs ≡ false
are_items_fail t xs h = by_test (are_items t xs) refl
  where
    by_test : (x : Bool) → are_items t xs ≡ x → are_items t xs ≡ false
    by_test false e = e
    by_test true e = absurd (h (are_items_passed t xs e))

unasked : (in' source fit : Bool) (t : ItemType) (e : PlantFault) →
    ◌≡◌ {A = Result ItemType PlantFault} (if not in' then Err NoSuchBlock else (if not source then Err NotSource else Ok t)) (Err e) →
    (in' && (source && not fit)) ≡ false
unasked false source fit t e h = refl
unasked true false fit t e h = refl
unasked true true fit t e h = absurd (cc)

module _ (net : Network) (st : State) (b : ℕ) (xs : List ℤ) (ms : List Mark) where
  -- no range is asked of what is no source
  pub numbers-refused : (e : PlantFault) → source_type_of net b ≡ Err e → (refusal_of e ≡ Some (feed_numbers net st b xs ms).0) × ((feed_numbers net st b xs ms).1 ≡ st)
  numbers-refused e h =
      let no = unasked (nat_lt b (length net.nodes)) (is_source (role_at net b)) (are_items (given_type net b) xs) _ e h in
      rw no (feed-refused net st b (given_type net b) xs ms e h)

  module _ (t : ItemType) (is : IsSource net b t) where
    -- numbers are fed as the items that they make
    pub numbers-in_range : AreItems t xs → feed_numbers net st b xs ms ≡ feed_of net st b t xs ms
    numbers-in_range fit =
        let in' = lt-ltb b (length net.nodes) is.inside in
        let pass : are_items (given_type net b) xs ≡ true = ap (λ u. are_items u xs) is.type ∙ are_items_pass t xs fit in
        let same : feed_numbers net st b xs ms ≡ feed_of net st b (given_type net b) xs ms = rw (in', is.source, pass) refl in
        same ∙ ap (λ u. feed_of net st b u xs ms) is.type

    pub numbers-out_of_range : (AreItems t xs → ⊥) → feed_numbers net st b xs ms ≡ (Refused machine.item_range, st)
    numbers-out_of_range out =
        let in' = lt-ltb b (length net.nodes) is.inside in
        let fail : are_items (given_type net b) xs ≡ false = ap (λ u. are_items u xs) is.type ∙ are_items_fail t xs out in
        rw (in', is.source, fail) refl
