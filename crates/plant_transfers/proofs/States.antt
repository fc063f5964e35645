-- One buffer changes among those of all blocks.
use Rattle.std.proofs.Common.{◌≡◌, ℕ, ℤ, ◌+◌, ◌<◌, ◌≤◌, List, [], ◌∷◌, map, length, get_or, set, Vec, vec_len, Global, Option, Some, None, refl, arith, ap, sym, ◌∙◌, subst, inl, inr, get_or-set_same, get_or-set_other, Bool, nat_le, cond}
use Rattle.std.specs.Vec.{with_item}
use Rattle.std.proofs.Math.ListN as lists
use Rattle.std.proofs.lemmas.Bool.{cases_eq, cases_lt, cases_Bool}
use Rattle.std.proofs.lemmas.List.{map-set, get_or-map, get_or_default, length-map}
use Rattle.stream_model.specs.Tags.{Tag}
use Rattle.ring_readers.specs.State.{RingState, IsLive, slowest_of, with_items, with_taken, without_reader}
use Rattle.tags.specs.TagList.{tags_from, insert_tags}
use Rattle.buffers.specs.declared.buffer.Buffer.{Buffer}
use Rattle.buffers.specs.Buffer.{BufferState, wanted_tags}
use Rattle.plant_laws.specs.Stored as stored
use Rattle.plant_laws.specs.Stored.{OutputBuffer, buffers_in, buffer_in}
use Rattle.plant_laws.specs.Changes.{pushed, advanced, released}
use Rattle.plant_storage.specs.Stores.{buffer_of}
use Rattle.plant_storage.specs.Lending.{no_buffer}
use Rattle.plant_transfers.specs.Rows.{rows_of, outputs_of, state_in, with_buffer, OthersStay, HasNoLessRoom}

abbrev pub Row : Type 0
Row = Vec Buffer Global

abbrev pub items_of : Row → List BufferState
items_of row = row.items

abbrev pub rows : List Row → List (List BufferState)
rows vs = rows_of items_of vs

abbrev pub outputs : List Row → List (List OutputBuffer)
outputs vs = outputs_of items_of vs

-- the rows with another state at one place
abbrev pub with_state : List (List BufferState) → ℕ → ℕ → BufferState → List (List BufferState)
with_state bs a p s = set bs a (set (get_or bs a []) p s)

-- a buffer among the outputs is its state
pub buffer_at : (bs : List (List BufferState)) (a p : ℕ) → buffer_in (map (map buffer_of) bs) a p ≡ buffer_of (state_in bs a p)
buffer_at bs a p =
    ap (λ (row : List OutputBuffer). get_or row p stored.no_buffer) (lists.get_or-map (map buffer_of) bs a [])
    ∙ lists.get_or-map buffer_of (get_or bs a []) p no_buffer

pub outputs_with : (bs : List (List BufferState)) (a p : ℕ) (s : BufferState) →
    map (map buffer_of) (with_state bs a p s) ≡ set (map (map buffer_of) bs) a (set (buffers_in (map (map buffer_of) bs) a) p (buffer_of s))
outputs_with bs a p s =
    map-set (map buffer_of) bs a (set (get_or bs a []) p s)
    ∙ ap (set (map (map buffer_of) bs) a) (map-set buffer_of (get_or bs a []) p s ∙ ap (λ (row : List OutputBuffer). set row p (buffer_of s)) (sym (lists.get_or-map (map buffer_of) bs a [])))

-- each other state is as it was
pub state_other : (bs : List (List BufferState)) (a p : ℕ) (s : BufferState) → a < length bs → OthersStay a p bs (with_state bs a p s)
state_other bs a p s in' = λ b q ne.
    elim (cases_eq b a) [
      | inl e ↦ elim (cases_eq q p) [
        | inl f ↦ absurd (ne e f)
        | inr other ↦ ap (λ k. state_in (with_state bs a p s) k q) e
            ∙ ap (λ (row : List BufferState). get_or row q no_buffer) (get_or-set_same bs a (set (get_or bs a []) p s) [] in')
            ∙ get_or-set_other (get_or bs a []) p q s no_buffer other
            ∙ ap (λ k. state_in bs k q) (sym e)
      ]
      | inr other ↦ ap (λ (row : List BufferState). get_or row q no_buffer) (get_or-set_other bs a b (set (get_or bs a []) p s) [] other)
    ]

pub state_same : (bs : List (List BufferState)) (a p : ℕ) (s : BufferState) → a < length bs → p < length (get_or bs a []) → state_in (with_state bs a p s) a p ≡ s
state_same bs a p s in' used =
    ap (λ (row : List BufferState). get_or row p no_buffer) (get_or-set_same bs a (set (get_or bs a []) p s) [] in')
    ∙ get_or-set_same (get_or bs a []) p s no_buffer used

pub no_less_room : (bs : List (List BufferState)) (a p : ℕ) (s : BufferState) → a < length bs → p < length (get_or bs a []) → (state_in bs a p).spare ≤ s.spare → HasNoLessRoom bs (with_state bs a p s)
no_less_room bs a p s in' used more = λ b q.
    elim (cases_eq b a) [
      | inl e ↦ elim (cases_eq q p) [
        | inl f ↦ (let same = ap (λ (t : BufferState). t.spare) (ap (λ k. state_in (with_state bs a p s) k q) e ∙ ap (state_in (with_state bs a p s) a) f ∙ state_same bs a p s in' used) in
            let old = ap (λ (t : BufferState). t.spare) (ap (λ k. state_in bs k q) e ∙ ap (state_in bs a) f) in
            omega arith)
        | inr other ↦ (let same = ap (λ (t : BufferState). t.spare) (state_other bs a p s in' b q (λ _ f. other f)) in omega arith)
      ]
      | inr other ↦ (let same = ap (λ (t : BufferState). t.spare) (state_other bs a p s in' b q (λ e _. other e)) in omega arith)
    ]

-- a reader lives only in a buffer that there is
pub live_inside : (bs : List (List BufferState)) (a p r : ℕ) → IsLive (buffer_in (map (map buffer_of) bs) a p).ring r → (a < length bs) × (p < length (get_or bs a []))
live_inside bs a p r live =
    elim (cases_lt a (length bs)) [
      | inl in' ↦ elim (cases_lt p (length (get_or bs a []))) [
        | inl used ↦ (in', used)
        | inr over ↦ absurd (let none = ap (λ (s : BufferState). length s.ring.readers) (lists.get_or-eq_default (get_or bs a []) no_buffer over) in let at = ap (λ (b : OutputBuffer). length b.ring.readers) (buffer_at bs a p) in let there = live.there in omega arith)
      ]
      | inr over ↦ absurd (let none : get_or bs a [] ≡ [] = lists.get_or-eq_default bs [] over in
          let none' = ap (λ (row : List BufferState). length (get_or row p no_buffer).ring.readers) none in
          let at = ap (λ (b : OutputBuffer). length b.ring.readers) (buffer_at bs a p) in let there = live.there in omega arith)
    ]

-- the same of vectors
module _ (vs : List Row) (a : ℕ) (d : Row) (in' : a < length vs) where
  pub row_is : get_or (rows vs) a [] ≡ (get_or vs a d).items
  row_is = get_or-map items_of vs a d [] in'

  pub rows_with : (p : ℕ) (s : BufferState) → rows (set vs a (with_item (get_or vs a d) p s)) ≡ with_state (rows vs) a p s
  rows_with p s = map-set items_of vs a (with_item (get_or vs a d) p s) ∙ ap (λ (row : List BufferState). set (rows vs) a (set row p s)) (sym row_is)

  pub state_is : (p : ℕ) (e : BufferState) → p < length (get_or vs a d).items → get_or (get_or vs a d).items p e ≡ state_in (rows vs) a p
  state_is p e used = get_or_default (get_or vs a d).items p e no_buffer used ∙ ap (λ (row : List BufferState). get_or row p no_buffer) (sym row_is)

  pub changed : (p : ℕ) (s : BufferState) (f : OutputBuffer → OutputBuffer) → buffer_of s ≡ f (buffer_of (state_in (rows vs) a p)) →
      outputs (set vs a (with_item (get_or vs a d) p s)) ≡ with_buffer (outputs vs) a p f
  changed p s f is =
      ap (map (map buffer_of)) (rows_with p s)
      ∙ outputs_with (rows vs) a p s
      ∙ ap (λ (b : OutputBuffer). set (outputs vs) a (set (buffers_in (outputs vs) a) p b)) (is ∙ ap f (sym (buffer_at (rows vs) a p)))

  pub others_stay : (p : ℕ) (s : BufferState) → OthersStay a p (rows vs) (rows (set vs a (with_item (get_or vs a d) p s)))
  others_stay p s = subst (OthersStay a p (rows vs)) (sym (rows_with p s)) (state_other (rows vs) a p s (rw length-map in'))

  pub room_stays : (p : ℕ) (s : BufferState) → p < length (get_or (rows vs) a []) → (state_in (rows vs) a p).spare ≤ s.spare → HasNoLessRoom (rows vs) (rows (set vs a (with_item (get_or vs a d) p s)))
  room_stays p s used more = subst (HasNoLessRoom (rows vs)) (sym (rows_with p s)) (no_less_room (rows vs) a p s (rw length-map in') used more)

-- what is kept of tags is no more than these
pub few_from : (before : ℕ) (ts : List Tag) → length (tags_from before ts) ≤ length ts
few_from before [] = omega arith
few_from before (t ∷ ts) = elim (cases_Bool (nat_le before t.offset)) [
  | inl e ↦ (let rest = few_from before ts in subst (λ (b : Bool). length (cond b (t ∷ tags_from before ts) (tags_from before ts)) ≤ length (t ∷ ts)) (sym e) (omega arith))
  | inr e ↦ (let rest = few_from before ts in subst (λ (b : Bool). length (cond b (t ∷ tags_from before ts) (tags_from before ts)) ≤ length (t ∷ ts)) (sym e) (omega arith))
]

few_or_none : (o : Option ℕ) (ts : List Tag) (ring : RingState) → slowest_of ring.readers ≡ o → length (wanted_tags ring ts) ≤ length ts
few_or_none (Some place) ts ring e = rw e (few_from place ts)
few_or_none None ts ring e = rw e (omega arith)

pub few_wanted : (ring : RingState) (ts : List Tag) → length (wanted_tags ring ts) ≤ length ts
few_wanted ring ts = few_or_none (slowest_of ring.readers) ts ring refl

-- the reader's buffer is there
pub record IsThere (vs : List Row) (a p : ℕ) (d : Row) : Type 0 where
  pub block : a < length vs
  pub port : p < length (get_or (rows vs) a [])
  pub long : p < length (get_or vs a d).items

pub there : (vs : List Row) (a p r : ℕ) (d : Row) → IsLive (buffer_in (outputs vs) a p).ring r → IsThere vs a p d
there vs a p r d live =
    let inside = live_inside (rows vs) a p r live in
    let block : a < length vs = (let short = inside.0 in let same = length-map vs items_of in omega arith) in
    record { block = block; port = inside.1; long = rw (row_is vs a d block) at inside.1 }

-- what a call finds there
pub found : (vs : List Row) (a p r : ℕ) (d : Row) (s : BufferState) → IsLive (buffer_in (outputs vs) a p).ring r → s ≡ get_or (get_or vs a d).items p s → s ≡ state_in (rows vs) a p
found vs a p r d s live is =
    let at = there vs a p r d live in
    is ∙ state_is vs a d at.block p s at.long

pub found_ring : (vs : List Row) (a p r : ℕ) (d : Row) (s : BufferState) → IsLive (buffer_in (outputs vs) a p).ring r → s ≡ get_or (get_or vs a d).items p s → (buffer_in (outputs vs) a p).ring ≡ s.ring
found_ring vs a p r d s live is = ap (λ (b : OutputBuffer). b.ring) (buffer_at (rows vs) a p) ∙ ap (λ (t : BufferState). t.ring) (sym (found vs a p r d s live is))

module _ (s t : BufferState) (r r' : ℕ) (is : r ≡ r') (item : t.item ≡ s.item) (tags : t.tags ≡ wanted_tags t.ring s.tags) where
  pub advanced_is : (count : ℕ) → t.ring ≡ with_taken s.ring r count → buffer_of t ≡ advanced (buffer_of s) r' count
  advanced_is count ring =
      let ring' : t.ring ≡ with_taken s.ring r' count = ring ∙ ap (λ n. with_taken s.ring n count) is in
      let tags' = tags ∙ ap (λ z. wanted_tags z s.tags) ring' in
      λ i. record { item = item i; ring = ring' i; tags = tags' i }

  pub released_is : t.ring ≡ without_reader s.ring r → buffer_of t ≡ released (buffer_of s) r'
  released_is ring =
      let ring' : t.ring ≡ without_reader s.ring r' = ring ∙ ap (without_reader s.ring) is in
      let tags' = tags ∙ ap (λ z. wanted_tags z s.tags) ring' in
      λ i. record { item = item i; ring = ring' i; tags = tags' i }

  pub room_is : t.spare + length t.tags ≡ s.spare + length s.tags → s.spare ≤ t.spare
  room_is spare =
      let few = few_wanted t.ring s.tags in
      let same = ap length tags in
      omega arith

-- a vector is as long as its items
pub long_row : (vs : List Row) (a : ℕ) (d : Row) → vec_len (get_or vs a d) ≡ length (get_or vs a d).items
long_row vs a d = (get_or vs a d).ok.0

pub found_there : (vs : List Row) (a p : ℕ) (d : Row) (s : BufferState) → a < length vs → p < length (get_or (rows vs) a []) → s ≡ get_or (get_or vs a d).items p s → s ≡ state_in (rows vs) a p
found_there vs a p d s in' used is = is ∙ state_is vs a d in' p s (rw (row_is vs a d in') at used)

pub pushed_is : (s t : BufferState) (xs : List ℤ) (ts : List Tag) → t.item ≡ s.item → t.ring ≡ with_items s.ring xs → t.tags ≡ wanted_tags s.ring (insert_tags ts s.tags) → buffer_of t ≡ pushed (buffer_of s) xs ts
pushed_is s t xs ts item ring tags = λ i. record { item = item i; ring = ring i; tags = tags i }
