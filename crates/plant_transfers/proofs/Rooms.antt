-- Room that is made in one place of a list is kept in the others.
use Rattle.std.proofs.Common.{◌≡◌, ◌≢◌, ℕ, zero, suc, ◌+◌, ◌<◌, ◌≤◌, true, List, [], ◌∷◌, map, length, get_or, refl, arith, ap, sym, subst, ◌∙◌, inl, inr, vec_capacity}
use Rattle.std.specs.Prelude.{sum_by}
use Rattle.std.specs.List.{All}
use Rattle.std.proofs.Math.ListN as lists
use Rattle.std.proofs.Math.ListN.{set}
use Rattle.std.proofs.Math.Seq.{map-set_same}
use Rattle.std.proofs.lemmas.Bool.{cases_lt}
use Rattle.std.proofs.lemmas.List.{map-set, get_or-map, length-map, get_or-set_same, get_or-set_other}
use Rattle.std.proofs.lemmas.Grind.{get_or-set_at}
use Rattle.stream_model.specs.Tags.{tags_within}
use Rattle.stream_model.specs.Network.{Network, role_at, is_keeper, used_outputs}
use Rattle.stream_laws.specs.CanRun.{CanRun}
use Rattle.buffers.specs.Buffer.{BufferState}
use Rattle.recordings.specs.Recording.{RecordingState}
use Rattle.plant_laws.specs.Stored.{Stored}
use Rattle.plant_laws.specs.Changes.{tags_waiting, tags_brought}
use Rattle.plant_storage.specs.declared.stores.Stores.{Stores}
use Rattle.plant_storage.specs.declared.intake.Intake.{Intake}
use Rattle.plant_storage.specs.Stores.{buffer_of, collected_of, rows_in, stored_in, stored_of, tape_of}
use Rattle.plant_storage.specs.Lending.{CanLend, HasRoom, no_buffer, no_sink, sink_state}
use Rattle.plant_transfers.specs.Rows.{HasNoLessRoom}
use Rattle.plant_transfers.specs.Spare.{HasSpare}
use Rattle.plant_transfers.specs.Tags.{tags_on_items}
use Rattle.plant_transfers.proofs.States as states
use Rattle.plant_transfers.proofs.States.{Row}
use Rattle.plant_transfers.proofs.TagCounts.{brought_few, kept_few}

-- a place is written over by one that is no less
pub set_keeps : {X : Type 0} (room : X → ℕ) (xs : List X) (i : ℕ) (x d : X) → room (get_or xs i d) ≤ room x → (p : ℕ) → room (get_or xs p d) ≤ room (get_or (set xs i x) p d)
set_keeps room [] i x d more p = omega arith
set_keeps room (y ∷ ys) zero x d more zero = more
set_keeps room (y ∷ ys) zero x d more (suc p) = omega arith
set_keeps room (y ∷ ys) (suc i) x d more zero = omega arith
set_keeps room (y ∷ ys) (suc i) x d more (suc p) = set_keeps room ys i x d more p

-- rows that are given back as they were lent, but for their room, are stored as before
pub record RowsStay (old new : List Row) : Type 0 where
  pub stored : states.outputs new ≡ states.outputs old
  pub room : HasNoLessRoom (states.rows old) (states.rows new)

pub rows_stay : (old lent given new : List Row) → lent ≡ old → new ≡ given → states.outputs given ≡ states.outputs lent → HasNoLessRoom (states.rows lent) (states.rows given) → RowsStay old new
rows_stay old lent given new e f stored room = record {
  stored = ap (λ (vs : List Row). states.outputs vs) f ∙ stored ∙ ap (λ (vs : List Row). states.outputs vs) e;
  room = subst (λ (vs : List Row). HasNoLessRoom (states.rows old) (states.rows vs)) (sym f) (subst (λ (vs : List Row). HasNoLessRoom (states.rows vs) (states.rows given)) e room);
}

-- so are sinks
pub record SinksStay (old new : List RecordingState) : Type 0 where
  pub stored : map collected_of new ≡ map collected_of old
  pub room : (a : ℕ) → HasSpare (get_or old a no_sink).spare_items (get_or old a no_sink).spare_tags (get_or new a no_sink)

pub sinks_stay : (old lent given new : List RecordingState) → lent ≡ old → new ≡ given → map collected_of given ≡ map collected_of lent →
    ((a : ℕ) → HasSpare (get_or lent a no_sink).spare_items (get_or lent a no_sink).spare_tags (get_or given a no_sink)) → SinksStay old new
sinks_stay old lent given new e f stored room = record {
  stored = ap (map collected_of) f ∙ stored ∙ ap (map collected_of) e;
  room = λ a. subst (λ (ss : List RecordingState). HasSpare (get_or old a no_sink).spare_items (get_or old a no_sink).spare_tags (get_or ss a no_sink)) (sym f)
      (subst (λ (ss : List RecordingState). HasSpare (get_or ss a no_sink).spare_items (get_or ss a no_sink).spare_tags (get_or given a no_sink)) e (room a));
}

pub stored_again :
    (handed : List Intake) (words : List ℕ) (rows rows' : List (List BufferState)) (sinks sinks' : List RecordingState) → map (map buffer_of) rows' ≡ map (map buffer_of) rows →
    map collected_of sinks' ≡ map collected_of sinks → stored_of handed words rows' sinks' ≡ stored_of handed words rows sinks
stored_again handed words rows rows' sinks sinks' e f = λ i. record { tapes = map tape_of handed; timelines = map (λ h. h.timeline) handed; words = words; buffers = e i; sinks = f i }

-- buffers and sinks that differ in their room alone are stored as the same
pub same_buffer : (a b : BufferState) → a.item ≡ b.item → a.ring ≡ b.ring → a.tags ≡ b.tags → buffer_of a ≡ buffer_of b
same_buffer a b item ring tags = rw (item, ring, tags) refl

pub same_sink : (a b : RecordingState) → a.item ≡ b.item → a.from ≡ b.from → a.items ≡ b.items → a.tags ≡ b.tags → collected_of a ≡ collected_of b
same_sink a b item from items tags = rw (item, from, items, tags) refl

-- more places have room for n
pub set_room : {X : Type 0} (room : X → ℕ) (n : ℕ) (xs : List X) (i : ℕ) (x : X) → i < length xs → n ≤ room x → ((p : ℕ) (d : X) → p < i → n ≤ room (get_or xs p d)) →
    (p : ℕ) (d : X) → p < i + 1 → n ≤ room (get_or (set xs i x) p d)
set_room room n xs i x in' more before p d lt = elim (cases_lt p i) [
  | inl less ↦ let other : p ≢ i = omega arith in rw (get_or-set_other xs i p x d other) (before p d less)
  | inr same ↦ let here : p ≡ i = omega arith in rw (get_or-set_at xs i p x d here in') more
]

-- a row is written over
module _ {V : Type 0} (items_of : V → List BufferState) (rows : List V) (at : ℕ) (row d : V) where
  pub same_rows : map buffer_of (items_of row) ≡ map buffer_of (items_of (get_or rows at d)) →
      map (map buffer_of) (map items_of (set rows at row)) ≡ map (map buffer_of) (map items_of rows)
  same_rows same =
      ap (map (map buffer_of)) (map-set items_of rows at row)
      ∙ map-set_same (map buffer_of) (map items_of rows) at (items_of row) (items_of d) (same ∙ ap (map buffer_of) (sym (lists.get_or-map items_of rows at d)))

  module _ (inside : at < length rows) where
    pub row_set : get_or (map items_of (set rows at row)) at [] ≡ items_of row
    row_set =
        let there : at < length (map items_of rows) = rw (length-map rows items_of) inside in
        ap (λ bs. get_or bs at []) (map-set items_of rows at row) ∙ get_or-set_same (map items_of rows) at (items_of row) [] there

    pub rows_keep : ((p : ℕ) → (get_or (items_of (get_or rows at d)) p no_buffer).spare ≤ (get_or (items_of row) p no_buffer).spare) →
        HasNoLessRoom (map items_of rows) (map items_of (set rows at row))
    rows_keep more a p =
        let was : get_or (map items_of rows) at [] ≡ items_of (get_or rows at d) = get_or-map items_of rows at d [] inside in
        let here : (get_or (get_or (map items_of rows) at []) p no_buffer).spare ≤ (get_or (items_of row) p no_buffer).spare = rw was (more p) in
        rw (map-set items_of rows at row) (set_keeps (λ (bs : List BufferState). (get_or bs p no_buffer).spare) (map items_of rows) at (items_of row) [] here a)

-- where there is room for all tags on the items that firings take, there is room for what their commit stores
pub has_room : (net : Network) (can : CanRun net) (old new : Stores) (b first count tags : ℕ) → CanLend net (stored_in old) b first count → stored_in new ≡ stored_in old →
    tags ≡ sum_by length (tags_on_items net (stored_in old) b first (first + count)) → All (λ s. tags ≤ s.spare) (get_or (rows_in new) b []) → tags ≤ vec_capacity new.brought →
    (is_keeper (role_at net b) ≡ true → HasSpare count tags (sink_state new b)) → HasRoom net new b first count
has_room net can old new b first count tags lend same counted outputs brought sink =
    let few : (p : ℕ) → length (tags_brought net (stored_in new) b p first (first + count)) ≤ tags = λ p.
    rw counted (subst (λ (s : Stored). length (tags_brought net s b p first (first + count)) ≤ sum_by length (tags_on_items net (stored_in old) b first (first + count))) (sym same) (brought_few net (stored_in old) b first (first + count) p)) in
    let shown : length (get_or (stored_in new).buffers b []) ≡ length (get_or (rows_in new) b []) =
    ap length (lists.get_or-map (map buffer_of) (rows_in new) b []) ∙ length-map (get_or (rows_in new) b []) buffer_of in
    let long : length (get_or (stored_in new).buffers b []) ≡ used_outputs net b = ap (λ (s : Stored). length (get_or s.buffers b [])) same ∙ lend.places.outputs b lend.inside in
    record {
      tags = λ p used. let less = few p in let room = outputs p no_buffer (omega arith) in omega arith;
      brought = λ p used. let less = few p in omega arith;
      sink_items = λ keeper. (sink keeper).more_items;
      sink_tags = λ keeper.
          let less : length (tags_within first (first + count) (get_or (tags_waiting net (stored_in new) b) 0 [])) ≤ tags =
          rw counted (subst (λ (s : Stored). length (tags_within first (first + count) (get_or (tags_waiting net s b) 0 [])) ≤ sum_by length (tags_on_items net (stored_in old) b first (first + count))) (sym same) (kept_few net (stored_in old) b first (first + count) can keeper)) in
          let room = (sink keeper).more_tags in
          omega arith;
    }
