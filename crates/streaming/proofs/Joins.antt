-- Pieces that are drained join, and what was drained stays a beginning of the stream.
use Rattle.std.proofs.Common.{◌≡◌, ℕ, zero, suc, ℤ, ◌+◌, ◌-◌, ◌<◌, ◌≤◌, min, Bool, true, List, [], ◌∷◌, ◌++◌, length, map, take, drop, get_or, refl, arith, zero-le, ap, sym, ◌∙◌, subst, inl, inr, length-take, length-drop}
use Rattle.std.specs.Prelude.{slice_range, nat_le, nat_lt, ◌&&◌}
use Rattle.std.specs.List.{filter}
use Rattle.std.proofs.Math.Seq.{take-add}
use Rattle.std.proofs.lemmas.Bool.{cases_Bool, lt-ltb, le-leb, lt-leb, le-ltb, ltb-true, ltb-false}
use Rattle.stream_model.specs.Tags.{Tag, IsOrdered, sorted_tags, tags_within}
use Rattle.stream_model.proofs.TagOrder.{later, rest_ordered, offset_upto}
use Rattle.stream_model.specs.Network.{Network, Progress, State, Handed, handed_at, role_at, is_source, is_keeper, node_at, chosen, items_of, tags_by, writer_of, writers_of}
use Rattle.stream_model.specs.Machine.{Capacities, Call, next}
use Rattle.stream_model.proofs.Streams.{elim-true, elim-false}
use Rattle.stream_laws.specs.CanRun.{CanRun}
use Rattle.stream_laws.proofs.Past.{take-fewer}
use Rattle.stream_laws.proofs.Sorting.{ordered_sorted, filter-sorted}
use Rattle.machine_laws.specs.Sound.{fired, reached, Sound}
use Rattle.machine_laws.proofs.Following.{what_is_shown_stays}
use Rattle.machine_laws.proofs.Ports.{keeper_takes_all, keeper_takes_each}
use Rattle.machine_laws.proofs.Sounds.{calls_keep_sound}
use Rattle.plant_laws.proofs.Staying.{input_tags-stay}
use Rattle.plant_storage.specs.declared.stores.Stores.{Stores}
use Rattle.plant_storage.specs.Stores.{state_of}
use Rattle.plant.specs.Plant.{Keeps}
use Rattle.streaming.specs.Streaming.{GoesOn, StaysBegun, stream_into, tags_into}
use Rattle.streaming.proofs.Pieces.{collected_all}

-- a part from an item up to another, behind the items before it
part_joins : (ys xs : List ℤ) (from to : ℕ) → from ≤ to → to ≤ length ys → xs ≡ slice_range ys from to → take (from + length xs) ys ≡ take from ys ++ xs
part_joins ys xs from to le long is =
    let count : length xs ≡ to - from = ap length is ∙ (let taken = length-take (to - from) (drop from ys) in let rest = length-drop from ys in omega (arith, taken, rest, long)) in
    ap (λ n. take (from + n) ys) count ∙ take-add from (to - from) ys ∙ ap (λ zs. take from ys ++ zs) (sym is)

pub part_long : (ys xs : List ℤ) (from to : ℕ) → from ≤ to → to ≤ length ys → xs ≡ slice_range ys from to → from + length xs ≡ to
part_long ys xs from to le long is =
    let count = ap length is in let taken = length-take (to - from) (drop from ys) in let rest = length-drop from ys in
    omega (arith, count, taken, rest, le, long)

-- no tag lies below an item where all lie behind it
tags_none : (low from : ℕ) (ts : List Tag) → ((k : ℕ) (d : Tag) → k < length ts → from ≤ (get_or ts k d).offset) → tags_within low from ts ≡ []
tags_none low from [] high = refl
tags_none low from (t ∷ ts) high =
    let first = high 0 t (omega arith) in
    let rest = tags_none low from ts (λ k d lt. high (suc k) d (omega (arith, lt))) in
    elim (cases_Bool (nat_le low t.offset)) [
      | inl up ↦ rw (up, le-ltb t.offset from first) rest
      | inr down ↦ rw down rest
    ]

-- and of tags in order
pub tags_join : (low from to : ℕ) → low ≤ from → from ≤ to → (ts : List Tag) → IsOrdered ts → tags_within low to ts ≡ tags_within low from ts ++ tags_within from to ts
tags_join low from to up le [] o = refl
tags_join low from to up le (t ∷ ts) o =
    let rest = tags_join low from to up le ts (rest_ordered t ts o) in
    elim (cases_Bool (nat_lt t.offset from)) [
      | inl before ↦
          let lt = ltb-true t.offset from before in
          let on = lt-ltb t.offset to (omega (arith, lt, le)) in
          let out = lt-leb from t.offset lt in
          elim (cases_Bool (nat_le low t.offset)) [
            | inl above ↦ rw (above, before, on, out) (ap (λ us. t ∷ us) rest)
            | inr below ↦ rw (below, out) rest
          ]
      | inr behind ↦
          let ge = ltb-false t.offset from behind in
          let above = le-leb low t.offset (omega (arith, up, ge)) in
          let none : tags_within low from ts ≡ [] = tags_none low from ts (λ k d lt. let up' = offset_upto t (get_or ts k d) (later t ts o k d lt) in omega (arith, ge, up')) in
          elim (cases_Bool (nat_lt t.offset to)) [
            | inl on ↦ rw (above, behind, on, le-leb from t.offset ge, none) (ap (λ us. t ∷ us) (rest ∙ ap (λ us. us ++ tags_within from to ts) none))
            | inr off ↦ rw (above, behind, off, le-leb from t.offset ge, none) (rest ∙ ap (λ us. us ++ tags_within from to ts) none)
          ]
    ]

-- the tags on an output stand in order
ordered_by : (turns : ℕ) (net : Network) (hs : List Handed) (b p : ℕ) → 1 ≤ turns → IsOrdered (tags_by turns net hs b p)
unfolding tags_by
ordered_by zero net hs b p some = absurd (omega arith)
ordered_by (suc turns) net hs b p some =
    let own = sorted_tags (handed_at hs b).tags in
    let keeps : Tag → Bool = λ t. nat_le 0 t.offset && nat_lt t.offset (length (items_of net hs b p)) in
    let us = chosen (node_at net b).policy (node_at net b) p 0 (map (λ c. tags_by turns net hs c.from c.out_port) (writers_of net b)) in
    elim (cases_Bool (is_source (role_at net b))) [
      | inl e ↦ subst IsOrdered (sym (elim-true (is_source (role_at net b)) own (filter keeps (sorted_tags us)) e)) (ordered_sorted (handed_at hs b).tags)
      | inr e ↦ subst IsOrdered (sym (elim-false (is_source (role_at net b)) own (filter keeps (sorted_tags us)) e)) (subst IsOrdered (sym (filter-sorted keeps us)) (ordered_sorted (filter keeps us)))
    ]

-- and so those that enter a block
pub ordered_into : (net : Network) (st : State) (b : ℕ) → b < length net.nodes → IsOrdered (tags_into net st b)
ordered_into net st b in' = ordered_by (length net.nodes) net st.handed (writer_of net b 0).from (writer_of net b 0).out_port (omega (arith, in'))

module _ (net : Network) (caps : Capacities) (can : CanRun net) (s : Stores) (ps : List Progress) (keeps : Keeps net caps s ps) (b : ℕ) (in' : b < length net.nodes) (keeper : is_keeper (role_at net b) ≡ true) where
  abbrev st : State
  st = state_of s.handed.items ps

  long_enough : fired st b ≤ length (stream_into net st b)
  long_enough =
      let all = collected_all net caps can s ps keeps b 0 0 in' keeper zero-le in
      let items = ap length (keeps.stored.sinks b in' keeper).items in
      let taken = length-take (fired st b) (stream_into net st b) in
      omega (arith, all, items, taken)

  pub goes_on : (from max : ℕ) (xs : List ℤ) (ts : List Tag) → from ≤ fired st b → xs ≡ slice_range (stream_into net st b) from (min (from + max) (fired st b)) →
      ts ≡ tags_within from (min (from + max) (fired st b)) (tags_into net st b) → GoesOn net st b from xs ts
  goes_on from max xs ts le items tags =
      let to = min (from + max) (fired st b) in
      let long = long_enough in
      let order : from ≤ to = omega (arith, le) in
      let within : to ≤ length (stream_into net st b) = omega (arith, long) in
      let end = part_long (stream_into net st b) xs from to order within items in
      record {
        items_join = part_joins (stream_into net st b) xs from to order within items;
        tags_join = ap (λ n. tags_within 0 n (tags_into net st b)) end
            ∙ tags_join 0 from to zero-le order (tags_into net st b) (ordered_into net st b in')
            ∙ ap (λ us. tags_within 0 from (tags_into net st b) ++ us) (sym tags);
      }

module _ (net : Network) (caps : Capacities) (can : CanRun net) (b : ℕ) (in' : b < length net.nodes) (keeper : is_keeper (role_at net b) ≡ true) where
  stays_once : (st : State) → Sound net caps st → (k : ℕ) → k ≤ fired st b → (call : Call) →
      (take k (stream_into net (next net caps st call).1 b) ≡ take k (stream_into net st b)) × (tags_within 0 k (tags_into net (next net caps st call).1 b) ≡ tags_within 0 k (tags_into net st b))
  stays_once st sound k le call =
      let after = (next net caps st call).1 in
      let stays = λ (c : ℕ) (in2 : c < length net.nodes). (what_is_shown_stays net caps st can sound call c in2).firings in
      let each = keeper_takes_each net can b keeper in
      let used : 0 < length (writers_of net b) = can.fed b in' (keeper_takes_all (role_at net b) keeper) in
      let items = (stays b in').past.inputs.items 0 in
      let few : k ≤ reached st b = omega (arith, le) in (
        sym (take-fewer k (reached st b) (stream_into net st b) (stream_into net after b) few (rw (each (reached st b)) at items)),
        sym (rw (each k) at (input_tags-stay net can caps st after sound stays b 0 k in' used few)),
      )

  pub stays_begun : (st : State) → Sound net caps st → (k : ℕ) → k ≤ fired st b → StaysBegun net caps st b k
  stays_begun st sound k le [] = (refl, refl)
  stays_begun st sound k le (call ∷ calls) =
      let after = (next net caps st call).1 in
      let rises = (what_is_shown_stays net caps st can sound call b in').rises in
      let rest = stays_begun after (calls_keep_sound net caps st can sound call) k (omega (arith, le, rises)) calls in
      let once = stays_once st sound k le call in
      (rest.0 ∙ once.0, rest.1 ∙ once.1)
