-- A block that ends: the buffers at its inputs no longer wait for it.
use Rattle.std.proofs.Common.{◌≤◌, ◌≡◌, ◌≢◌, ℕ, ◌*◌, ◌<◌, true, false, not, length, map, take, get_or, refl, arith, ap, sym, ◌∙◌, subst, inl, inr, get_or-set_same, get_or-set_other, zero-le, suc}
use Rattle.std.proofs.lemmas.Bool.{cases_eq, lt-ltb, false_from_ne_true, false≢true}
use Rattle.stream_model.specs.Tags.{tags_within}
use Rattle.stream_model.specs.Meaning.{input}
use Rattle.stream_model.specs.Network.{Network, Connection, Progress, State, no_progress, node_at, handed_at, progress_at, writers_of, writer_of, readers_of, used_outputs, taken_by, entering, tags_entering}
use Rattle.stream_model.specs.Claims.{Ends, decide}
use Rattle.stream_model.specs.Machine.{Capacities, Claim, ended, counts_of, claim_of, next}
use Rattle.stream_model.proofs.Maps.{map-agree}
use Rattle.stream_laws.specs.CanRun.{CanRun, IsItsWriter}
use Rattle.stream_laws.proofs.Writers.{is_input}
use Rattle.machine_laws.specs.Sound.{fired, Sound}
use Rattle.ring_readers.specs.declared.reader.ReaderState.{ReaderState}
use Rattle.buffers.proofs.Readers.{GoesOn}
use Rattle.plant_laws.specs.Stored.{tape_at, timeline_at, settings_from, sink_at, OutputBuffer, Stored, buffer_in, buffer_at}
use Rattle.plant_laws.specs.Holds.{IsBuffer, Holds, place_of, has_no_reader}
use Rattle.plant_laws.specs.Changes.{reader_number, released, released_buffers, with_released}
use Rattle.plant_laws.specs.Calls.{EndingHolds}
use Rattle.plant_laws.specs.Turns.{CanTake, ReadersLeaveInTurn}
use Rattle.plant_laws.proofs.Staying.{readers_all}
use Rattle.plant_laws.proofs.Readers.{none_reads, none_reads-from, output_used}
use Rattle.plant_laws.proofs.Outputs.{IsShaped, AllRight, ShowsUpTo, some_turned, all_turned}
use Rattle.plant_laws.proofs.Turning.{places_at, places-none, places-other, places-before, RightAt, reader_there, reader_stands, moved_here, moved_other}

-- an output that is read was read before
pub read_before : (net : Network) (caps : Capacities) (st after : State) → ((c : ℕ) → (progress_at st.progress c).done ≡ true → (progress_at after.progress c).done ≡ true) → (w p : ℕ) →
    has_no_reader net caps after w p ≡ false → has_no_reader net caps st w p ≡ false
read_before net caps st after done-stays w p read =
    false_from_ne_true (has_no_reader net caps st w p)
    (λ none.
    let all = none_reads-from net caps after w p (λ k d lt. done-stays (get_or (readers_of net w p) k d).to (none_reads net caps st w p none k d lt)) in
    cc)

-- the progress of block b is written over: its readers have moved, and no other
module _ (net : Network) (can : CanRun net) (caps : Capacities) (st after : State) (b : ℕ) (others : (c : ℕ) → c ≢ b → progress_at after.progress c ≡ progress_at st.progress c) where
  -- a buffer that shows what its block gave, the first inputs of block b moved
  abbrev pub Moving : ℕ → ℕ → ℕ → OutputBuffer → Type 0
  Moving = RightAt net can caps after.handed (λ w p. has_no_reader net caps after w p ≡ false) (fired after) b (place_of net st) (place_of net after)

  pub place-other : (c : Connection) → c.to ≢ b → place_of net st c ≡ place_of net after c
  place-other c ne = ap (λ (p : Progress). record { place = taken_by (node_at net c.to) c.in_port p.firings; history = (node_at net c.to).meaning.history; live = not p.done }) (sym (others c.to ne))

  pub moved_all : (w p : ℕ) (buffer : OutputBuffer) → Moving (length (writers_of net b)) w p buffer → IsBuffer net caps after w p buffer
  moved_all w p buffer right =
      record {
        type = right.type;
        capacity = right.capacity;
        greatest = right.greatest;
        readers = right.readers ∙ map-agree (λ d. (d.from ≡ w) × (d.out_port ≡ p) × IsItsWriter net d) (places_at b (place_of net st) (place_of net after) (length (writers_of net b))) (place_of net after) (readers_of net w p)
            (readers_all net (IsItsWriter net) w p can.writers)
            (λ d is. elim (cases_eq d.to b) [
              | inl to ↦ places-before b (place_of net st) (place_of net after) (length (writers_of net b)) d to (subst (λ v. d.in_port < length (writers_of net v)) to is.2.used)
              | inr ne ↦ places-other b (place_of net st) (place_of net after) (length (writers_of net b)) d ne ∙ place-other d ne
            ]);
        shows = λ read. let shows = right.shows read in record { written = shows.written; items = shows.items; tags = shows.tags };
      }

  -- before any has moved, the readers stand where they stood
  pub none_moved : (w p : ℕ) → map (place_of net st) (readers_of net w p) ≡ map (places_at b (place_of net st) (place_of net after) 0) (readers_of net w p)
  none_moved w p = map-agree (λ (d : Connection). Unit) (place_of net st) (places_at b (place_of net st) (place_of net after) 0) (readers_of net w p) (λ i d lt. tt) (λ d _. sym (places-none b (place_of net st) (place_of net after) d))

module _ (net : Network) (can : CanRun net) (caps : Capacities) (st : State) (sound : Sound net caps st) (stored : Stored) (holds : Holds net caps st stored) (b : ℕ) (in' : b < length net.nodes) where
  abbrev over : State
  over = ended st b

  at-here : progress_at (over).progress b ≡ record (progress_at st.progress b) { done = true }
  at-here = get_or-set_same st.progress b (record (progress_at st.progress b) { done = true }) no_progress (rw sound.progress_count in')

  at-other : (c : ℕ) → c ≢ b → progress_at (over).progress c ≡ progress_at st.progress c
  at-other c ne = get_or-set_other st.progress b c (record (progress_at st.progress b) { done = true }) no_progress ne

  fired-same : (c : ℕ) → fired (over) c ≡ fired st c
  fired-same c = elim (cases_eq c b) [
    | inl e ↦ ap (fired (over)) e ∙ ap (λ (p : Progress). p.firings) at-here ∙ ap (fired st) (sym e)
    | inr ne ↦ ap (λ (p : Progress). p.firings) (at-other c ne)
  ]

  done-stays : (c : ℕ) → (progress_at st.progress c).done ≡ true → (progress_at (over).progress c).done ≡ true
  done-stays c d = elim (cases_eq c b) [
    | inl e ↦ ap (λ k. (progress_at (over).progress k).done) e ∙ ap (λ (p : Progress). p.done) at-here
    | inr ne ↦ ap (λ (p : Progress). p.done) (at-other c ne) ∙ d
  ]

  -- the reader at input q
  module _ (q : ℕ) (used : q < length (writers_of net b)) where
    abbrev c : Connection
    c = writer_of net b q

    gone : ReaderState → ReaderState
    gone pl = record pl { live = false }

    releases : record (place_of net st (c)) { live = false } ≡ place_of net (over) (c)
    releases =
        let to = (is_input net can b q used).to in
        let done : (progress_at (over).progress (c).to).done ≡ true = ap (λ k. (progress_at (over).progress k).done) to ∙ ap (λ (p : Progress). p.done) at-here in
        let count = fired-same (c).to in
        rw (done, count) refl

    goes_on : GoesOn (place_of net st (c)) (place_of net (over) (c))
    goes_on =
        let place = ap (λ (p : ReaderState). p.place) releases in
        record { live = λ live. absurd (let dead = ap (λ (p : ReaderState). p.live) releases in false≢true (dead ∙ live)); place = omega arith }

  start : (w p : ℕ) (buffer : OutputBuffer) → IsBuffer net caps st w p buffer → Moving net can caps st (over) b at-other 0 w p buffer
  start w p buffer is =
      record {
        type = is.type;
        capacity = is.capacity;
        greatest = is.greatest;
        readers = is.readers ∙ none_moved net can caps st (over) b at-other w p;
        shows = λ read. let shows = is.shows (read_before net caps st (over) done-stays w p read) in subst (λ k. ShowsUpTo net st.handed w p k buffer) (sym (fired-same w)) (record { written = shows.written; items = shows.items; tags = shows.tags });
      }

  shaped : IsShaped net stored.buffers
  shaped = record { count = holds.places.buffers; outputs = holds.places.outputs }

  abbrev releasing : Connection → OutputBuffer → OutputBuffer
  releasing c buffer = released buffer (reader_number net c)

  releases_here : (q : ℕ) → q < length (writers_of net b) → (buffer : OutputBuffer) → let c = writer_of net b q in Moving net can caps st (over) b at-other q c.from c.out_port buffer → Moving net can caps st (over) b at-other (suc q) c.from c.out_port (releasing c buffer)
  releases_here q used buffer right = moved_here net can caps (over).handed (λ w p. has_no_reader net caps (over) w p ≡ false) (fired (over)) b (place_of net st) (place_of net (over)) q used (λ pl. record pl { live = false }) (releases q used) (goes_on q used) buffer right

  releases_other : (q : ℕ) → q < length (writers_of net b) → (w p : ℕ) (buffer : OutputBuffer) → let c = writer_of net b q in (w ≡ c.from → p ≡ c.out_port → ⊥) → Moving net can caps st (over) b at-other q w p buffer → Moving net can caps st (over) b at-other (suc q) w p buffer
  releases_other q used w p buffer not_it right = moved_other net can caps (over).handed (λ w p. has_no_reader net caps (over) w p ≡ false) (fired (over)) b (place_of net st) (place_of net (over)) q used w p buffer not_it right

  begin : AllRight net (Moving net can caps st (over) b at-other 0) stored.buffers
  begin w p in1 used = start w p (buffer_at stored w p) (holds.buffers w p in1 used)

  released_all : IsShaped net (with_released net stored b).buffers × ((w p : ℕ) → w < length net.nodes → p < used_outputs net w → IsBuffer net caps (over) w p (buffer_at (with_released net stored b) w p))
  released_all =
      let turned = all_turned net can b (releasing) (Moving net can caps st (over) b at-other) releases_here releases_other stored.buffers shaped begin in
      (turned.0, λ w p in1 used. moved_all net can caps st (over) b at-other w p (buffer_at (with_released net stored b) w p) (turned.1 w p in1 used))

  -- each reader is there in its turn
  pub leaves_in_turn : (progress_at st.progress b).done ≡ false → (q : ℕ) → q < length (writers_of net b) → CanTake net (released_buffers net (take q (writers_of net b)) stored.buffers) (writer_of net b q) 0
  leaves_in_turn live q used =
      let c = writer_of net b q in
      let is = is_input net can b q used in
      let buffers = released_buffers net (take q (writers_of net b)) stored.buffers in
      let turned = some_turned net can b (releasing) (Moving net can caps st (over) b at-other) releases_here releases_other q (omega arith) stored.buffers shaped begin in
      let right = turned.1 c.from c.out_port is.from (output_used net can b q used) in
      let stands = reader_stands net can caps (over).handed (λ w p. has_no_reader net caps (over) w p ≡ false) (fired (over)) b (place_of net st) (place_of net (over)) q used (buffer_in buffers c.from c.out_port) right in
      record {
        live = record {
          there = reader_there net can caps (over).handed (λ w p. has_no_reader net caps (over) w p ≡ false) (fired (over)) b (place_of net st) (place_of net (over)) q used (buffer_in buffers c.from c.out_port) right;
          live = ap (λ (p : ReaderState). p.live) stands ∙ ap not (ap (λ k. (progress_at st.progress k).done) is.to ∙ live);
        };
        unread = zero-le;
      }

  pub ended_holds : Holds net caps (over) (with_released net stored b)
  ended_holds =
      let places = holds.places in
      let all = released_all in
      record {
        places = record { tapes = places.tapes; timelines = places.timelines; words = places.words; buffers = all.0.count; outputs = all.0.outputs; sinks = places.sinks };
        tapes = holds.tapes;
        kept = λ c in1 e. subst (λ (n : ℕ). (tape_at stored c).from ≤ n) (sym (fired-same c)) (holds.kept c in1 e);
        timelines = holds.timelines;
        unread = λ c in1. subst (λ (n : ℕ). settings_from (timeline_at stored c) ≤ taken_by (node_at net c) 0 n) (sym (fired-same c)) (holds.unread c in1);
        words = λ c in1. holds.words c in1 ∙ ap (λ k. (node_at net c).meaning.word (handed_at st.handed c).settings (entering net st.handed c) ((node_at net c).multiple * k)) (sym (fired-same c));
        buffers = all.1;
        sinks = λ c in1 keeper. let has = holds.sinks c in1 keeper in record {
          type = has.type;
          items = has.items ∙ ap (λ k. take k (input (entering net st.handed c) 0)) (sym (fired-same c));
          tags = has.tags ∙ ap (λ k. tags_within 0 k (tags_entering net st.handed c 0)) (sym (fired-same c));
          kept = subst (λ (n : ℕ). (sink_at stored c).from ≤ n) (sym (fired-same c)) has.kept;
        };
      }

ending_is : (net : Network) (caps : Capacities) (st : State) (b max : ℕ) → b < length net.nodes → decide (node_at net b) (counts_of net caps st b) max ≡ Ends → (next net caps st (Claim b max)).1 ≡ ended st b
unfolding claim_of
ending_is net caps st b max in' e = let inside = lt-ltb b (length net.nodes) in' in rw (inside, e) refl

pub ending_holds : EndingHolds
ending_holds net caps st stored can sound holds b max in' e =
    subst (λ after. Holds net caps after (with_released net stored b)) (sym (ending_is net caps st b max in' e)) (ended_holds net can caps st sound stored holds b in')

pub readers_leave_in_turn : ReadersLeaveInTurn
readers_leave_in_turn net caps st stored can sound holds b q in' live used = leaves_in_turn net can caps st sound stored holds b in' live q used
