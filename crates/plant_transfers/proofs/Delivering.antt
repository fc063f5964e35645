-- What is stored, as the steps of a commit take it.
use Rattle.std.proofs.Common.{◌≡◌, ℕ, ◌+◌, ◌≤◌, List, [], ◌∷◌, vec_capacity, map, length, get_or, arith, ap, sym, ◌∙◌, subst}
use Rattle.std.specs.List.{AllZip}
use Rattle.std.proofs.Math.ListN as lists
use Rattle.std.proofs.lemmas.List.{length-map}
use Rattle.stream_model.specs.Lists.{below}
use Rattle.stream_model.specs.Network.{Network, writers_of, used_outputs}
use Rattle.flowgraph.specs.declared.parts.BlockId.{BlockId}
use Rattle.items.specs.declared.stream_items.Items.{Items}
use Rattle.items.specs.Items.{numbers_of}
use Rattle.buffers.specs.Buffer.{BufferState}
use Rattle.recordings.specs.Recording.{RecordingState}
use Rattle.plant_laws.specs.Stored.{OutputBuffer}
use Rattle.plant_laws.specs.Changes.{taken_buffers}
use Rattle.plant_storage.specs.declared.intake.Intake.{Intake}
use Rattle.plant_storage.specs.declared.stores.Stores.{Stores}
use Rattle.plant_storage.specs.Stores.{buffer_of, tape_of, collected_of, stored_in, stored_of}
use Rattle.plant_storage.specs.Delivery.{CanGive, CanDeliver, delivered_buffers, delivered_sinks}
use Rattle.plant_transfers.specs.Rows.{state_in}
use Rattle.plant_transfers.specs.Steps.{stored_with, CanTakeAll, CanGiveAll, sink_in}
use Rattle.plant_transfers.specs.declared.firing_range.FiringRange.{FiringRange}
use Rattle.plant_transfers.proofs.Reading.{can_read}
use Rattle.plant_transfers.proofs.States.{Row, rows, outputs}

zip_weaker : {A B : Type 0} (R S : A → B → Type 0) → ((x : A) (y : B) → R x y → S x y) → (xs : List A) (ys : List B) → AllZip R xs ys → AllZip S xs ys
zip_weaker R S weaker [] [] all = tt
zip_weaker R S weaker [] (y ∷ ys) all = absurd all
zip_weaker R S weaker (x ∷ xs) [] all = absurd all
zip_weaker R S weaker (x ∷ xs) (y ∷ ys) all = (weaker x y all.0, zip_weaker R S weaker xs ys all.1)

module _ (net : Network) (old : Stores) (block : BlockId) (first count : ℕ) (windows outs : List Items) (can : CanDeliver net old block.0 first count windows outs)
    (firings : FiringRange) (firings_are : firings ≡ record { block = block; first = first; next = first + count }) where
  abbrev b : ℕ
  b = block.0

  -- outputs can be given, from what is lent
  pub gives_at : (hs : List Intake) (vs : List Row) → hs ≡ old.handed.items → vs ≡ old.buffers.items → CanGiveAll net hs (rows vs) (vec_capacity old.brought) firings.block.0 firings.first firings.next outs
  gives_at hs vs hs_is vs_is =
      subst (λ (f : FiringRange). CanGiveAll net hs (rows vs) (vec_capacity old.brought) f.block.0 f.first f.next outs) (sym firings_are)
      (subst (λ us. CanGiveAll net hs (rows us) (vec_capacity old.brought) b first (first + count) outs) (sym vs_is)
      (subst (λ gs. CanGiveAll net gs (rows old.buffers.items) (vec_capacity old.brought) b first (first + count) outs) (sym hs_is) gives))
    where
      gives : CanGiveAll net old.handed.items (rows old.buffers.items) (vec_capacity old.brought) b first (first + count) outs
      gives = record {
        blocks = sym (length-map (rows old.buffers.items) (map buffer_of)) ∙ can.lends.places.buffers;
        handed = sym (length-map old.handed.items tape_of) ∙ can.lends.places.tapes;
        ports = sym (length-map (get_or (rows old.buffers.items) b []) buffer_of) ∙ sym (ap length (lists.get_or-map (map buffer_of) (rows old.buffers.items) b [])) ∙ can.lends.places.outputs b can.lends.inside;
        reads = can_read net old b first count can.lends old.handed.items (λ e. (can.lends.tape e).kept);
        gives = zip_weaker (λ p out. CanGive net (stored_in old) b p first (first + count) out) (λ p out. CanGive net (stored_with old.handed.items (rows old.buffers.items)) b p first (first + count) out)
            (λ p out give. record { type = give.type; room = give.room; small = give.small; ahead = give.ahead }) (below (used_outputs net b)) outs can.gives;
        room = can.room.tags;
        list = can.room.brought;
      }

  pub given_at : (hs : List Intake) (vs new : List Row) → hs ≡ old.handed.items → vs ≡ old.buffers.items → outputs new ≡ delivered_buffers net (stored_with hs (rows vs)) firings.block.0 firings.first firings.next (map numbers_of outs) →
      outputs new ≡ delivered_buffers net (stored_in old) b first (first + count) (map numbers_of outs)
  given_at hs vs new hs_is vs_is given =
      given
      ∙ ap (λ (f : FiringRange). delivered_buffers net (stored_with hs (rows vs)) f.block.0 f.first f.next (map numbers_of outs)) firings_are
      ∙ ap (λ us. delivered_buffers net (stored_with hs (rows us)) b first (first + count) (map numbers_of outs)) vs_is
      ∙ ap (λ gs. delivered_buffers net (stored_with gs (rows old.buffers.items)) b first (first + count) (map numbers_of outs)) hs_is

  pub takes_at : (given : List (List OutputBuffer)) → given ≡ delivered_buffers net (stored_in old) b first (first + count) (map numbers_of outs) → CanTakeAll net given firings.block.0 firings.first firings.next
  takes_at given is =
      subst (λ (f : FiringRange). CanTakeAll net given f.block.0 f.first f.next) (sym firings_are) (subst (λ os. CanTakeAll net os b first (first + count)) (sym is) takes)
    where
      takes : CanTakeAll net (delivered_buffers net (stored_in old) b first (first + count) (map numbers_of outs)) b first (first + count)
      takes = record {
        inside = can.lends.inside;
        rises = omega arith;
        words = can.lends.words;
        counts = λ p in'. (can.lends.inputs p in').rises;
        turns = can.takes;
      }

  pub taken_at : (here new : List (List OutputBuffer)) → here ≡ delivered_buffers net (stored_in old) b first (first + count) (map numbers_of outs) →
      new ≡ taken_buffers net firings.block.0 firings.first firings.next (writers_of net firings.block.0) here →
      new ≡ taken_buffers net b first (first + count) (writers_of net b) (delivered_buffers net (stored_in old) b first (first + count) (map numbers_of outs))
  taken_at here new is taken =
      taken
      ∙ ap (λ (f : FiringRange). taken_buffers net f.block.0 f.first f.next (writers_of net f.block.0) here) firings_are
      ∙ ap (taken_buffers net b first (first + count) (writers_of net b)) is

  pub kept_at : (vs : List Row) (ss new : List RecordingState) → vs ≡ old.buffers.items → ss ≡ old.sinks.items →
      map collected_of new ≡ delivered_sinks net (stored_of [] [] (rows vs) ss) firings.block.0 firings.first firings.next (map numbers_of windows) →
      map collected_of new ≡ delivered_sinks net (stored_in old) b first (first + count) (map numbers_of windows)
  kept_at vs ss new vs_is ss_is kept =
      kept
      ∙ ap (λ (f : FiringRange). delivered_sinks net (stored_of [] [] (rows vs) ss) f.block.0 f.first f.next (map numbers_of windows)) firings_are
      ∙ ap (λ us. delivered_sinks net (stored_of [] [] (rows us) ss) b first (first + count) (map numbers_of windows)) vs_is
      ∙ ap (λ ts. delivered_sinks net (stored_of [] [] (rows old.buffers.items) ts) b first (first + count) (map numbers_of windows)) ss_is

-- the room that is left after all steps
pub room_at : (old first given then after last : List Row) (a p : ℕ) → first ≡ old → state_in (rows given) a p ≡ state_in (rows first) a p → then ≡ given →
    (state_in (rows then) a p).spare ≤ (state_in (rows after) a p).spare → last ≡ after → (state_in (rows old) a p).spare ≤ (state_in (rows last) a p).spare
room_at old first given then after last a p one two three four five =
    let start = ap (λ (vs : List Row). (state_in (rows vs) a p).spare) one in
    let gave = ap (λ (s : BufferState). s.spare) two in
    let went = ap (λ (vs : List Row). (state_in (rows vs) a p).spare) three in
    let end' = ap (λ (vs : List Row). (state_in (rows vs) a p).spare) five in
    omega arith

pub sink_room_at : (old first after last : List RecordingState) (a : ℕ) → first ≡ old → sink_in after a ≡ sink_in first a → last ≡ after →
    ((sink_in old a).spare_items ≤ (sink_in last a).spare_items) × ((sink_in old a).spare_tags ≤ (sink_in last a).spare_tags)
sink_room_at old first after last a one two three =
    let whole = ap (λ (ss : List RecordingState). sink_in ss a) three ∙ two ∙ ap (λ (ss : List RecordingState). sink_in ss a) one in
    let items = ap (λ (s : RecordingState). s.spare_items) whole in
    let tags = ap (λ (s : RecordingState). s.spare_tags) whole in
    (omega arith, omega arith)
