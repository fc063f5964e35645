-- What a drain that appends takes away of a sink.
use Rattle.std.proofs.Common.{◌≡◌, ℕ, ◌+◌, ◌<◌, ◌≤◌, min, Bool, true, false, List, length, get_or, refl, arith, ap, sym, ◌∙◌, lt-ltb, Err, None}
use Rattle.std.proofs.lemmas.List.{get_or-map, length-map}
use Rattle.std.specs.Prelude.{Result, slice_range}
use Rattle.stream_model.specs.declared.vocabulary.ItemType.{ItemType}
use Rattle.stream_model.specs.Numbers.{types_agree}
use Rattle.stream_model.specs.Tags.{tags_within}
use Rattle.stream_model.specs.Network.{Network, Progress, State, node_at, progress_at, role_at, is_keeper}
use Rattle.stream_model.specs.Machine.{Capacities, HoldsAll, Piece}
use Rattle.stream_laws.specs.CanRun.{CanRun}
use Rattle.machine_laws.specs.Sound.{fired}
use Rattle.machine_laws.proofs.Wholes.{done_piece_is_whole}
use Rattle.recordings.specs.Recording.{RecordingState}
use Rattle.plant_laws.specs.Calls.{IsCutOut}
use Rattle.plant_laws.specs.Stored.{Collected, nothing_collected, sink_at}
use Rattle.plant_laws.proofs.Reading.{reads_are_cut_out}
use Rattle.plant_storage.specs.declared.stores.Stores.{Stores}
use Rattle.plant_storage.specs.Stores.{collected_of, state_of, stored_in}
use Rattle.plant_faults.specs.declared.fault.PlantFault.{PlantFault}
use Rattle.plant_faults.specs.declared.fault.PlantFault.TheVariants.{ItemRange}
use Rattle.plant.specs.Plant.{Keeps}
use Rattle.streaming.specs.declared.draining.Appended.{Appended}
use Rattle.streaming.specs.Draining.{MayBeRefused, drain_fault}
use Rattle.streaming.specs.Streaming.{GoesOn, stream_into, tags_into}
use Rattle.streaming.proofs.Joins.{goes_on}
use Rattle.streaming.proofs.Pieces.{IsPieceOf, drained_at, drained_few, drains, is_piece}

-- at a sink only the type of the items may be wrong
pub refused_here : (net : Network) (b : ℕ) (item : ItemType) → b < length net.nodes → is_keeper (role_at net b) ≡ true → (result : Result Appended PlantFault) →
    (types_agree item (node_at net b).meaning.inputs.item ≡ false → result ≡ Err ItemRange) → (types_agree item (node_at net b).meaning.inputs.item ≡ true → MayBeRefused None result) →
    MayBeRefused (drain_fault net b item) result
refused_here net b item in' keeper result other same = by_type (types_agree item (node_at net b).meaning.inputs.item) refl
  where
    by_type : (t : Bool) → types_agree item (node_at net b).meaning.inputs.item ≡ t → MayBeRefused (drain_fault net b item) result
    by_type true e = let member = lt-ltb b (length net.nodes) in' in rw (member, keeper, e) (same e)
    by_type false e = let member = lt-ltb b (length net.nodes) in' in rw (member, keeper, e) (other e)

-- and it is right where nothing is refused
pub agree_here : (net : Network) (b : ℕ) (item : ItemType) → b < length net.nodes → is_keeper (role_at net b) ≡ true → drain_fault net b item ≡ None → types_agree item (node_at net b).meaning.inputs.item ≡ true
agree_here net b item in' keeper = by_type (types_agree item (node_at net b).meaning.inputs.item) refl
  where
    by_type : (t : Bool) → types_agree item (node_at net b).meaning.inputs.item ≡ t → drain_fault net b item ≡ None → types_agree item (node_at net b).meaning.inputs.item ≡ true
    by_type true e = λ none. e
    by_type false e = let member = lt-ltb b (length net.nodes) in' in rw (member, keeper, e) (λ none. absurd (cc))

-- what is known of a sink's recording where a drain takes items up to one of them
pub record Drawn (net : Network) (st : State) (b from max to : ℕ) (s : Stores) (r : RecordingState) : Type 0 where
  pub inside : b < length s.sinks.items
  pub kept_is : r.from ≡ from
  pub rises : from ≤ to
  pub within : to ≤ fired st b
  pub long : length r.items ≡ fired st b
  pub items_are : slice_range r.items from to ≡ slice_range (stream_into net st b) from (min (from + max) (fired st b))
  pub tags_are : tags_within from to r.tags ≡ tags_within from (min (from + max) (fired st b)) (tags_into net st b)
  pub type_is : r.item ≡ (node_at net b).meaning.inputs.item
  pub goes : GoesOn net st b from (slice_range (stream_into net st b) from (min (from + max) (fired st b))) (tags_within from (min (from + max) (fired st b)) (tags_into net st b))
  pub all_taken : (progress_at st.progress b).done ≡ true → HoldsAll net st b
  pub to_is : to ≡ min (from + max) (fired st b)

module _ (net : Network) (caps : Capacities) (can : CanRun net) (s : Stores) (ps : List Progress) (keeps : Keeps net caps s ps) (b : ℕ) (in' : b < length net.nodes) (keeper : is_keeper (role_at net b) ≡ true)
    (r : RecordingState) (r_is : r ≡ get_or s.sinks.items b r) (from max to : ℕ) (from_is : from ≡ get_or (drains s.sinks.items) b 0) (to_is : to ≡ min (from + max) (fired (state_of s.handed.items ps) b)) where
  abbrev st : State
  st = state_of s.handed.items ps

  there : b < length s.sinks.items
  there = let places = keeps.stored.places.sinks in let long = length-map s.sinks.items collected_of in omega (arith, places, long, in')

  sink_is : collected_of r ≡ sink_at (stored_in s) b
  sink_is = ap collected_of r_is ∙ sym (get_or-map collected_of s.sinks.items b r nothing_collected there)

  kept : r.from ≡ from
  kept = sym (from_is ∙ drained_at s b r there r_is)

  begins : from ≤ fired st b
  begins = let few = drained_few net caps s ps keeps b in' keeper in omega (arith, few, from_is)

  ordered : from ≤ to
  ordered = let le = begins in omega (arith, le, to_is)

  ends : to ≤ fired st b
  ends = omega (arith, to_is)

  cut : IsCutOut net caps st b from max (sink_at (stored_in s) b)
  cut = reads_are_cut_out net caps st (stored_in s) can keeps.sound keeps.stored b from max in' keeper begins

  all : length r.items ≡ fired st b
  all = ap (λ (x : Collected). length x.items) sink_is ∙ cut.whole

  end : min (from + max) (length (sink_at (stored_in s) b).items) ≡ to
  end = let whole = cut.whole in omega (arith, whole, to_is)

  piece : IsPieceOf net st b from max (length (sink_at (stored_in s) b).items) (slice_range (sink_at (stored_in s) b).items from (min (from + max) (length (sink_at (stored_in s) b).items)))
      (tags_within from (min (from + max) (length (sink_at (stored_in s) b).items)) (sink_at (stored_in s) b).tags)
  piece = is_piece net st b from max from _ _ _ _ (sym cut.piece)

  items_shown : slice_range r.items from to ≡ slice_range (stream_into net st b) from (min (from + max) (fired st b))
  items_shown =
      ap (λ (x : Collected). slice_range x.items from to) sink_is ∙ ap (λ n. slice_range (sink_at (stored_in s) b).items from n) (sym end) ∙ piece.items_are

  tags_shown : tags_within from to r.tags ≡ tags_within from (min (from + max) (fired st b)) (tags_into net st b)
  tags_shown =
      ap (λ (x : Collected). tags_within from to x.tags) sink_is ∙ ap (λ n. tags_within from n (sink_at (stored_in s) b).tags) (sym end) ∙ piece.tags_are

  typed : r.item ≡ (node_at net b).meaning.inputs.item
  typed = ap (λ (x : Collected). x.item) sink_is ∙ (keeps.stored.sinks b in' keeper).type

  joins : GoesOn net st b from (slice_range (stream_into net st b) from (min (from + max) (fired st b))) (tags_within from (min (from + max) (fired st b)) (tags_into net st b))
  joins = goes_on net caps can s ps keeps b in' keeper from max _ _ begins refl refl

  whole : (progress_at ps b).done ≡ true → HoldsAll net st b
  whole done =
      let sink = sink_at (stored_in s) b in
      let till = min (from + max) (length sink.items) in
      done_piece_is_whole net caps st can keeps.sound b from max from (length sink.items) (slice_range sink.items from till) (tags_within from till sink.tags)
      (cut.piece ∙ ap (λ d. Piece from (length sink.items) (slice_range sink.items from till) (tags_within from till sink.tags) d) done)

  pub drawn : Drawn net st b from max to s r
  drawn = record {
    inside = there;
    kept_is = kept;
    rises = ordered;
    within = ends;
    long = all;
    items_are = items_shown;
    tags_are = tags_shown;
    type_is = typed;
    goes = joins;
    all_taken = whole;
    to_is = to_is;
  }
