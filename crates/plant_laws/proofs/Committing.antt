-- A commit keeps what is stored right.
use Rattle.std.proofs.Common.{◌≤◌, ◌≡◌, ◌≢◌, ℕ, ℤ, ◌+◌, ◌-◌, ◌*◌, ◌<◌, Bool, true, false, not, List, [], ◌++◌, length, map, set, take, drop, get_or, refl, arith, ap, sym, ◌∙◌, subst, inl, inr, cond, get_or-set_same, get_or-set_other, length-set, suc}
use Rattle.std.specs.Prelude.{if◌then◌else◌, ◌&&◌, nat_lt}
use Rattle.std.proofs.Math.Nat.{mul-add}
use Rattle.std.proofs.Math.Seq.{take-add}
use Rattle.std.proofs.lemmas.Bool.{cases_eq, and_parts}
use Rattle.std.proofs.lemmas.List.{get_or-map}
use Rattle.std.proofs.lemmas.List.FromFn.{length-map-range_with_len, get_or-map-range_with_len}
use Rattle.stream_model.specs.declared.vocabulary.Role.{Role}
use Rattle.stream_model.specs.declared.vocabulary.Role.TheVariants.{Source, Work, Keep, Discard}
use Rattle.stream_model.specs.Lists.{below, window}
use Rattle.stream_model.specs.Tags.{tags_within}
use Rattle.stream_model.specs.Meaning.{KeepsRole, input, given_outputs}
use Rattle.stream_model.specs.Network.{is_source, Network, Connection, Progress, State, no_progress, no_connection, node_at, handed_at, progress_at, role_at, is_keeper, writers_of, writer_of, used_outputs, taken_by, given_by, entering, tags_of, tags_entering}
use Rattle.stream_model.specs.Machine.{Capacities, Job, Reply, Did, job_of, with_progress, is_in_flight, jobs_agree, commit_of}
use Rattle.stream_model.proofs.Given.{map-numbers_from}
use Rattle.stream_model.proofs.Streams.{taken_by-rises}
use Rattle.stream_laws.specs.CanRun.{CanRun}
use Rattle.stream_laws.proofs.Writers.{is_input}
use Rattle.machine_laws.specs.Sound.{fired, reached, Sound}
use Rattle.machine_laws.proofs.Agreeing.{jobs_same}
use Rattle.machine_laws.proofs.Choices.{if_both}
use Rattle.machine_laws.proofs.Ports.{keeper_takes_each}
use Rattle.machine_laws.proofs.Sounds as sounds
use Rattle.ring_readers.specs.declared.reader.ReaderState.{ReaderState}
use Rattle.ring_readers.specs.State.{reader_at}
use Rattle.tags.specs.TagList.{insert_tags}
use Rattle.buffers.proofs.Readers.{GoesOn}
use Rattle.plant_laws.specs.Stored.{tape_at, timeline_at, settings_from, OutputBuffer, Collected, Stored, no_buffer, nothing_collected, buffers_in, buffer_in, buffer_at, sink_at}
use Rattle.plant_laws.specs.Holds.{IsBuffer, HasCollected, Holds, place_of, has_no_reader, word_of}
use Rattle.plant_laws.specs.Changes.{reader_number, pushed, advanced, taken_buffers, tags_waiting, tags_brought, given_buffers, collected, with_committed}
use Rattle.plant_laws.specs.Claims.{MayFire}
use Rattle.plant_laws.specs.Calls.{IsWorked, CommittingHolds}
use Rattle.plant_laws.specs.Turns.{CanTake, ReadersTakeInTurn}
use Rattle.plant_laws.proofs.Ending.{read_before, Moving, moved_all, none_moved}
use Rattle.plant_laws.proofs.Giving.{work_items, given_shows}
use Rattle.plant_laws.proofs.Joining.{ordered_tags, within_more}
use Rattle.plant_laws.proofs.Outputs.{IsShaped, ShowsUpTo, some_turned, all_turned}
use Rattle.plant_laws.proofs.Reading.{keeper_input}
use Rattle.plant_laws.proofs.Windows.{window-now}
use Rattle.plant_laws.proofs.Readers.{output_used}
use Rattle.plant_laws.proofs.Serving.{job_window, seen_tags, enough, is_read, flights_may_fire}
use Rattle.plant_laws.proofs.Turning.{reader_there, reader_stands, moved_here, moved_other}

module _ (net : Network) (can : CanRun net) (caps : Capacities) (st : State) (sound : Sound net caps st) (stored : Stored) (holds : Holds net caps st stored) (b : ℕ) (in' : b < length net.nodes)
    (some : 0 < (progress_at st.progress b).claimed) where
  abbrev claimed : ℕ
  claimed = (progress_at st.progress b).claimed

  abbrev progress : Progress
  progress = record (progress_at st.progress b) { firings = fired st b + (claimed); claimed = 0 }

  abbrev over : State
  over = with_progress st b (progress)

  at-here : progress_at (over).progress b ≡ progress
  at-here = get_or-set_same st.progress b (progress) no_progress (rw sound.progress_count in')

  at-other : (c : ℕ) → c ≢ b → progress_at (over).progress c ≡ progress_at st.progress c
  at-other c ne = get_or-set_other st.progress b c (progress) no_progress ne

  fired-here : fired (over) b ≡ reached st b
  fired-here = ap (λ (p : Progress). p.firings) at-here

  fired-other : (c : ℕ) → c ≢ b → fired (over) c ≡ fired st c
  fired-other c ne = ap (λ (p : Progress). p.firings) (at-other c ne)

  done-same : (c : ℕ) → (progress_at (over).progress c).done ≡ (progress_at st.progress c).done
  done-same c = elim (cases_eq c b) [
    | inl e ↦ ap (λ k. (progress_at (over).progress k).done) e ∙ ap (λ (p : Progress). p.done) at-here ∙ ap (λ k. (progress_at st.progress k).done) (sym e)
    | inr ne ↦ ap (λ (p : Progress). p.done) (at-other c ne)
  ]

  read-here : (w p : ℕ) → has_no_reader net caps (over) w p ≡ false → has_no_reader net caps st w p ≡ false
  read-here w p = read_before net caps st (over) (λ c d. done-same c ∙ d) w p

  may : MayFire net caps st b (claimed)
  may = flights_may_fire net caps st can sound b in' some

  abbrev give : ℕ → OutputBuffer
  give p = if has_no_reader net caps st b p then buffer_at stored b p else pushed (buffer_at stored b p) (work_items net can caps st sound b in' p) (tags_brought net stored b p (fired st b) (reached st b))

  abbrev given : List (List OutputBuffer)
  given = set stored.buffers b (map (give) (below (used_outputs net b)))

  row-here : buffers_in (given) b ≡ map (give) (below (used_outputs net b))
  row-here = get_or-set_same stored.buffers b (map (give) (below (used_outputs net b))) [] (rw holds.places.buffers in')

  row-other : (w : ℕ) → w ≢ b → buffers_in (given) w ≡ buffers_in stored.buffers w
  row-other w ne = get_or-set_other stored.buffers b w (map (give) (below (used_outputs net b))) [] ne

  given-shaped : IsShaped net (given)
  given-shaped =
      record {
        count = length-set stored.buffers b (map (give) (below (used_outputs net b))) ∙ holds.places.buffers;
        outputs = λ w in1. elim (cases_eq w b) [
          | inl e ↦ ap (λ v. length (buffers_in (given) v)) e ∙ ap length row-here ∙ length-map-range_with_len (give) 0 (used_outputs net b) ∙ ap (used_outputs net) (sym e)
          | inr ne ↦ ap length (row-other w ne) ∙ holds.places.outputs w in1
        ];
      }

  -- a buffer of another block
  start-other : (w p : ℕ) → w ≢ b → (buffer : OutputBuffer) → IsBuffer net caps st w p buffer → Moving net can caps st (over) b at-other 0 w p buffer
  start-other w p ne buffer is =
      record {
        type = is.type;
        capacity = is.capacity;
        greatest = is.greatest;
        readers = is.readers ∙ none_moved net can caps st (over) b at-other w p;
        shows = λ read. let shows = is.shows (read-here w p read) in subst (λ k. ShowsUpTo net st.handed w p k buffer) (sym (fired-other w ne)) (record { written = shows.written; items = shows.items; tags = shows.tags });
      }

  -- and of the block itself, which gave what its claim gives
  start-given : (p : ℕ) → p < used_outputs net b → (t : Bool) → has_no_reader net caps st b p ≡ t →
      Moving net can caps st (over) b at-other 0 b p (cond t (buffer_at stored b p) (pushed (buffer_at stored b p) (work_items net can caps st sound b in' p) (tags_brought net stored b p (fired st b) (reached st b))))
  start-given p used true none =
      let is = holds.buffers b p in' used in
      record {
        type = is.type;
        capacity = is.capacity;
        greatest = is.greatest;
        readers = is.readers ∙ none_moved net can caps st (over) b at-other b p;
        shows = λ read. absurd (let before = read-here b p read in cc);
      }
  start-given p used false read =
      let is = holds.buffers b p in' used in
      record {
        type = is.type;
        capacity = is.capacity;
        greatest = is.greatest;
        readers = is.readers ∙ none_moved net can caps st (over) b at-other b p;
        shows = λ _. subst (λ k. ShowsUpTo net st.handed b p k (pushed (buffer_at stored b p) (work_items net can caps st sound b in' p) (tags_brought net stored b p (fired st b) (reached st b)))) (sym fired-here)
            (given_shows net can caps st sound b in' stored holds may p used read);
      }

  start : (w p : ℕ) → w < length net.nodes → p < used_outputs net w → Moving net can caps st (over) b at-other 0 w p (buffer_in (given) w p)
  start w p in1 used =
      elim (cases_eq w b) [
        | inl e ↦ subst (λ v. p < used_outputs net v → Moving net can caps st (over) b at-other 0 v p (buffer_in (given) v p)) (sym e)
            (λ used'. subst (Moving net can caps st (over) b at-other 0 b p) (sym (ap (λ row. get_or row p no_buffer) row-here ∙ get_or-map-range_with_len (give) 0 (used_outputs net b) p p no_buffer used' (omega arith)))
            (start-given p used' (has_no_reader net caps st b p) refl)) used
        | inr ne ↦ subst (Moving net can caps st (over) b at-other 0 w p) (sym (ap (λ row. get_or row p no_buffer) (row-other w ne))) (start-other w p ne (buffer_at stored w p) (holds.buffers w p in1 used))
      ]

  -- the reader at input q takes what the claim's firings take
  module _ (q : ℕ) (used : q < length (writers_of net b)) where
    abbrev c : Connection
    c = writer_of net b q

    abbrev step : ℕ
    step = taken_by (node_at net b) (c).in_port (reached st b) - taken_by (node_at net b) (c).in_port (fired st b)

    takes_on : record (place_of net st (c)) { place = (place_of net st (c)).place + (step) } ≡ place_of net (over) (c)
    takes_on =
        let n = node_at net b in
        let to = (is_input net can b q used).to in
        let rise = taken_by-rises n (can.sound b) (c).in_port (fired st b) (reached st b) (omega arith) in
        let before : taken_by (node_at net (c).to) (c).in_port (fired st (c).to) ≡ taken_by n (c).in_port (fired st b) = ap (λ v. taken_by (node_at net v) (c).in_port (fired st v)) to in
        let after : taken_by (node_at net (c).to) (c).in_port (fired (over) (c).to) ≡ taken_by n (c).in_port (reached st b) = ap (λ v. taken_by (node_at net v) (c).in_port (fired (over) v)) to ∙ ap (taken_by n (c).in_port) fired-here in
        let places : taken_by (node_at net (c).to) (c).in_port (fired st (c).to) + (step) ≡ taken_by (node_at net (c).to) (c).in_port (fired (over) (c).to) = omega arith in
        λ i. record { place = places i; history = (node_at net (c).to).meaning.history; live = not (sym (done-same (c).to) i) }

    goes_on : GoesOn (place_of net st (c)) (place_of net (over) (c))
    goes_on =
        let place = ap (λ (p : ReaderState). p.place) takes_on in
        let live = ap (λ (p : ReaderState). p.live) takes_on in
        record { live = λ l. live ∙ l; place = omega arith }

  abbrev taking : Connection → OutputBuffer → OutputBuffer
  taking c buffer = advanced buffer (reader_number net c) (taken_by (node_at net b) c.in_port (reached st b) - taken_by (node_at net b) c.in_port (fired st b))

  takes_here : (q : ℕ) → q < length (writers_of net b) → (buffer : OutputBuffer) → let c = writer_of net b q in Moving net can caps st (over) b at-other q c.from c.out_port buffer → Moving net can caps st (over) b at-other (suc q) c.from c.out_port (taking c buffer)
  takes_here q used buffer right = moved_here net can caps (over).handed (λ w p. has_no_reader net caps (over) w p ≡ false) (fired (over)) b (place_of net st) (place_of net (over)) q used (λ pl. record pl { place = pl.place + step q used }) (takes_on q used) (goes_on q used) buffer right

  takes_other : (q : ℕ) → q < length (writers_of net b) → (w p : ℕ) (buffer : OutputBuffer) → let c = writer_of net b q in (w ≡ c.from → p ≡ c.out_port → ⊥) → Moving net can caps st (over) b at-other q w p buffer → Moving net can caps st (over) b at-other (suc q) w p buffer
  takes_other q used w p buffer not_it right = moved_other net can caps (over).handed (λ w p. has_no_reader net caps (over) w p ≡ false) (fired (over)) b (place_of net st) (place_of net (over)) q used w p buffer not_it right

  taken_all : IsShaped net (taken_buffers net b (fired st b) (reached st b) (writers_of net b) (given)) × ((w p : ℕ) → w < length net.nodes → p < used_outputs net w → IsBuffer net caps (over) w p (buffer_in (taken_buffers net b (fired st b) (reached st b) (writers_of net b) (given)) w p))
  taken_all =
      let turned = all_turned net can b (taking) (Moving net can caps st (over) b at-other) takes_here takes_other (given) given-shaped start in
      (turned.0, λ w p in1 used. moved_all net can caps st (over) b at-other w p (buffer_in (taken_buffers net b (fired st b) (reached st b) (writers_of net b) (given)) w p) (turned.1 w p in1 used))

  -- each reader has in its turn what it takes
  takes_in_turn : (q : ℕ) → q < length (writers_of net b) → CanTake net (taken_buffers net b (fired st b) (reached st b) (take q (writers_of net b)) (given)) (writer_of net b q) (taken_by (node_at net b) q (reached st b) - taken_by (node_at net b) q (fired st b))
  takes_in_turn q used =
      let c = writer_of net b q in
      let is = is_input net can b q used in
      let buffer = buffer_in (taken_buffers net b (fired st b) (reached st b) (take q (writers_of net b)) (given)) c.from c.out_port in
      let turned = some_turned net can b (taking) (Moving net can caps st (over) b at-other) takes_here takes_other q (omega arith) (given) given-shaped start in
      let right = turned.1 c.from c.out_port is.from (output_used net can b q used) in
      let stands = reader_stands net can caps (over).handed (λ w p. has_no_reader net caps (over) w p ≡ false) (fired (over)) b (place_of net st) (place_of net (over)) q used buffer right in
      let other : c.from ≢ b = λ same. let lower = is.lower in let level = ap can.level same in omega arith in
      let reads : has_no_reader net caps (over) c.from c.out_port ≡ false = read_before net caps (over) st (λ k d. sym (done-same k) ∙ d) c.from c.out_port (is_read net can caps st sound stored holds b (claimed) may q used) in
      let written : buffer.ring.written ≡ given_by (node_at net c.from) (fired st c.from) = (right.shows reads).written ∙ ap (given_by (node_at net c.from)) (fired-other c.from other) in
      let place : (reader_at buffer.ring (reader_number net c)).place ≡ taken_by (node_at net b) q (fired st b) =
      ap (λ (p : ReaderState). p.place) stands ∙ ap (λ v. taken_by (node_at net v) c.in_port (fired st v)) is.to ∙ ap (λ p. taken_by (node_at net b) p (fired st b)) is.in_port in
      let there = enough net can caps st sound stored holds b (claimed) may q used in
      record {
        live = record {
          there = reader_there net can caps (over).handed (λ w p. has_no_reader net caps (over) w p ≡ false) (fired (over)) b (place_of net st) (place_of net (over)) q used buffer right;
          live = ap (λ (p : ReaderState). p.live) stands ∙ ap not (ap (λ k. (progress_at st.progress k).done) is.to ∙ may.live);
        };
        unread = omega arith;
      }

  -- the outputs are given the work's items
  given_is : (outputs : List (List ℤ)) → outputs ≡ given_outputs (node_at net b).meaning (handed_at st.handed b).settings (entering net st.handed b) ((node_at net b).multiple * fired st b) ((node_at net b).multiple * (claimed)) (used_outputs net b) →
      given_buffers net caps st stored b (λ p. get_or outputs p []) (λ p. tags_brought net stored b p (fired st b) (reached st b)) ≡ given
  given_is outputs is =
      ap (set stored.buffers b)
      (map-numbers_from (λ p. if has_no_reader net caps st b p then buffer_at stored b p else pushed (buffer_at stored b p) (get_or outputs p []) (tags_brought net stored b p (fired st b) (reached st b))) (give) 0 (used_outputs net b)
      (λ p low high.
      let used : p < used_outputs net b = omega arith in
      let items : get_or outputs p [] ≡ work_items net can caps st sound b in' p =
      ap (λ l. get_or l p []) is ∙ get_or-map-range_with_len (work_items net can caps st sound b in') 0 (used_outputs net b) p p [] used (omega arith) in
      ap (λ xs. if has_no_reader net caps st b p then buffer_at stored b p else pushed (buffer_at stored b p) xs (tags_brought net stored b p (fired st b) (reached st b))) items))

  pub worked_turn : (outputs : List (List ℤ)) (word : ℕ) → IsWorked net st b outputs word → (q : ℕ) → q < length (writers_of net b) →
      CanTake net (taken_buffers net b (fired st b) (reached st b) (take q (writers_of net b)) (given_buffers net caps st stored b (λ p. get_or outputs p []) (λ p. tags_brought net stored b p (fired st b) (reached st b)))) (writer_of net b q)
      (taken_by (node_at net b) q (reached st b) - taken_by (node_at net b) q (fired st b))
  worked_turn outputs word worked q used =
      subst (λ buffers. CanTake net (taken_buffers net b (fired st b) (reached st b) (take q (writers_of net b)) buffers) (writer_of net b q) (taken_by (node_at net b) q (reached st b) - taken_by (node_at net b) q (fired st b)))
      (sym (given_is outputs worked.items)) (takes_in_turn q used)

  module _ (keeper : is_keeper (role_at net b) ≡ true) (windows : List (List ℤ)) (is_job : windows ≡ (job_of net st b (claimed)).windows) where
    abbrev sink : Collected
    sink = sink_at stored b

    abbrev new_sink : Collected
    new_sink = collected (sink) (input windows 0) (tags_within (fired st b) (reached st b) (get_or (tags_waiting net stored b) 0 []))

    used : 0 < length (writers_of net b)
    used = keeper_input net can caps st sound b in' keeper

    new_items : (sink).items ++ input windows 0 ≡ take (reached st b) (input (entering net st.handed b) 0)
    new_items =
        let n = node_at net b in
        let xs = input (entering net st.handed b) 0 in
        let each = keeper_takes_each net can b keeper in
        let count : fired st b + (claimed) - fired st b ≡ (claimed) = omega arith in
        ap (λ ws. (sink).items ++ input ws 0) is_job
        ∙ ap (λ l. (sink).items ++ l) (job_window net can caps st sound stored holds b (claimed) may 0 used
        ∙ ap (λ h. window xs (h - 1) (taken_by n 0 (fired st b)) (taken_by n 0 (fired st b + (claimed)))) (keeper_history (role_at net b) keeper (can.sound b).lawful.role)
        ∙ ap (λ k. window xs 0 k (taken_by n 0 (fired st b + (claimed)))) (each (fired st b))
        ∙ ap (window xs 0 (fired st b)) (each (fired st b + (claimed)))
        ∙ window-now xs (fired st b) (fired st b + (claimed))
        ∙ ap (λ c. take c (drop (fired st b) xs)) count)
        ∙ ap (λ l. l ++ take (claimed) (drop (fired st b) xs)) (holds.sinks b in' keeper).items
        ∙ sym (take-add (fired st b) (claimed) xs)
      where
        keeper_history : (r : Role) → is_keeper r ≡ true → KeepsRole (node_at net b).meaning r → (node_at net b).meaning.history ≡ 1
        keeper_history Source e role = cc
        keeper_history Work e role = cc
        keeper_history Keep e role = role.plain.0
        keeper_history Discard e role = cc

    new_tags : insert_tags (tags_within (fired st b) (reached st b) (get_or (tags_waiting net stored b) 0 [])) (sink).tags ≡ tags_within 0 (reached st b) (tags_entering net st.handed b 0)
    new_tags =
        let each = keeper_takes_each net can b keeper in
        let c = writer_of net b 0 in
        let ts = tags_of net st.handed c.from c.out_port in
        let waiting = get_or-map (λ (d : Connection). (buffer_at stored d.from d.out_port).tags) (writers_of net b) 0 no_connection [] used in
        let seen : tags_within (fired st b) (reached st b) (buffer_at stored c.from c.out_port).tags ≡ tags_within (fired st b) (reached st b) ts =
        rw (each (fired st b), each (fired st b + (claimed))) at (seen_tags net can caps st sound stored holds b (claimed) may 0 used) in
        ap (λ us. insert_tags (tags_within (fired st b) (reached st b) us) (sink).tags) waiting
        ∙ ap (λ us. insert_tags us (sink).tags) seen
        ∙ ap (insert_tags (tags_within (fired st b) (reached st b) ts)) (holds.sinks b in' keeper).tags
        ∙ within_more (fired st b) (reached st b) ts (ordered_tags net can st.handed c.from c.out_port (is_input net can b 0 used).from) (omega arith)

    collects : HasCollected net (over) b (new_sink)
    collects =
        record {
          type = (holds.sinks b in' keeper).type;
          items = new_items ∙ ap (λ k. take k (input (entering net st.handed b) 0)) (sym fired-here);
          tags = new_tags ∙ ap (λ k. tags_within 0 k (tags_entering net st.handed b 0)) (sym fired-here);
          kept = subst (λ (n : ℕ). (sink_at stored b).from ≤ n) (sym fired-here) (let h = (holds.sinks b in' keeper).kept in omega arith);
        }

  sink-other : (c : ℕ) → c ≢ b → c < length net.nodes → is_keeper (role_at net c) ≡ true → HasCollected net (over) c (sink_at stored c)
  sink-other c ne in1 keeper =
      let has = holds.sinks c in1 keeper in
      record {
        type = has.type;
        items = has.items ∙ ap (λ k. take k (input (entering net st.handed c) 0)) (sym (fired-other c ne));
        tags = has.tags ∙ ap (λ k. tags_within 0 k (tags_entering net st.handed c 0)) (sym (fired-other c ne));
        kept = subst (λ (n : ℕ). (sink_at stored c).from ≤ n) (sym (fired-other c ne)) has.kept;
      }

  module _ (windows : List (List ℤ)) (is_job : windows ≡ (job_of net st b (claimed)).windows) where
    abbrev more_sink : Collected
    more_sink = collected (sink_at stored b) (input windows 0) (tags_within (fired st b) (reached st b) (get_or (tags_waiting net stored b) 0 []))

    abbrev sinks_by : Bool → List Collected
    sinks_by t = cond t (set stored.sinks b (more_sink)) stored.sinks

    sinks_count : (t : Bool) → length (sinks_by t) ≡ length net.nodes
    sinks_count true = length-set stored.sinks b (more_sink) ∙ holds.places.sinks
    sinks_count false = holds.places.sinks

    sinks_at : (t : Bool) → is_keeper (role_at net b) ≡ t → (c : ℕ) → c < length net.nodes → is_keeper (role_at net c) ≡ true → HasCollected net (over) c (get_or (sinks_by t) c nothing_collected)
    sinks_at true e c in1 keeper =
        elim (cases_eq c b) [
          | inl same ↦ subst (λ k. HasCollected net (over) k (get_or (set stored.sinks b (more_sink)) k nothing_collected)) (sym same)
              (subst (HasCollected net (over) b) (sym (get_or-set_same stored.sinks b (more_sink) nothing_collected (rw holds.places.sinks in'))) (collects e windows is_job))
          | inr ne ↦ subst (HasCollected net (over) c) (sym (get_or-set_other stored.sinks b c (more_sink) nothing_collected ne)) (sink-other c ne in1 keeper)
        ]
    sinks_at false e c in1 keeper = sink-other c (λ same. let mine = ap (λ k. is_keeper (role_at net k)) same in cc) in1 keeper

    module _ (outputs : List (List ℤ)) (word : ℕ) (worked : IsWorked net st b outputs word) where
      words_at : (c : ℕ) → c < length net.nodes → get_or (set stored.words b word) c 0 ≡ word_of net (over) c
      words_at c in1 =
          let n = node_at net b in
          elim (cases_eq c b) [
            | inl same ↦ subst (λ k. get_or (set stored.words b word) k 0 ≡ word_of net (over) k) (sym same)
                (get_or-set_same stored.words b word 0 (rw holds.places.words in') ∙ worked.state
                ∙ ap (n.meaning.word (handed_at st.handed b).settings (entering net st.handed b)) (sym (mul-add n.multiple (fired st b) (claimed)) ∙ ap (λ k. n.multiple * k) (sym fired-here)))
            | inr ne ↦ get_or-set_other stored.words b c word 0 ne ∙ holds.words c in1
                ∙ ap (λ k. (node_at net c).meaning.word (handed_at st.handed c).settings (entering net st.handed c) ((node_at net c).multiple * k)) (sym (fired-other c ne))
          ]

      pub committed_holds : Holds net caps (over) (record stored {
        words = set stored.words b word;
        buffers = taken_buffers net b (fired st b) (reached st b) (writers_of net b) (given_buffers net caps st stored b (λ p. get_or outputs p []) (λ p. tags_brought net stored b p (fired st b) (reached st b)));
        sinks = sinks_by (is_keeper (role_at net b));
      })
      committed_holds =
          subst (λ buffers. Holds net caps (over) (record stored { words = set stored.words b word; buffers = taken_buffers net b (fired st b) (reached st b) (writers_of net b) buffers; sinks = sinks_by (is_keeper (role_at net b)) }))
          (sym (given_is outputs worked.items))
          (let places = holds.places in
          let all = taken_all in
          record {
            places = record {
              tapes = places.tapes;
              timelines = places.timelines;
              words = length-set stored.words b word ∙ places.words;
              buffers = all.0.count;
              outputs = all.0.outputs;
              sinks = sinks_count (is_keeper (role_at net b));
            };
            tapes = holds.tapes;
            kept = λ c in1 e. elim (cases_eq c b) [
              | inl same ↦ subst (λ k. is_source (role_at net k) ≡ true → (tape_at stored k).from ≤ fired (over) k) (sym same) (λ e'. subst (λ (n : ℕ). (tape_at stored b).from ≤ n) (sym fired-here) (let h = holds.kept b in' e' in omega arith)) e
              | inr ne ↦ subst (λ (n : ℕ). (tape_at stored c).from ≤ n) (sym (fired-other c ne)) (holds.kept c in1 e)
            ];
            timelines = holds.timelines;
            unread = λ c in1. elim (cases_eq c b) [
              | inl same ↦ subst (λ k. settings_from (timeline_at stored k) ≤ taken_by (node_at net k) 0 (fired (over) k)) (sym same)
                  (subst (λ (n : ℕ). settings_from (timeline_at stored b) ≤ taken_by (node_at net b) 0 n) (sym fired-here)
                  (let before = holds.unread b in' in let rises = taken_by-rises (node_at net b) (can.sound b) 0 (fired st b) (reached st b) (omega arith) in omega (arith, before, rises)))
              | inr ne ↦ subst (λ (n : ℕ). settings_from (timeline_at stored c) ≤ taken_by (node_at net c) 0 n) (sym (fired-other c ne)) (holds.unread c in1)
            ];
            words = words_at;
            buffers = all.1;
            sinks = sinks_at (is_keeper (role_at net b)) refl;
          })

-- where a commit is answered, the job is the claim in flight, and its firings are committed
record IsCommitted (net : Network) (st : State) (job : Job) (next_state : State) : Type 0 where
  pub inside : job.block < length net.nodes
  pub some : 0 < (progress_at st.progress job.block).claimed
  pub same : job ≡ job_of net st job.block (progress_at st.progress job.block).claimed
  pub is : next_state ≡ with_progress st job.block (record (progress_at st.progress job.block) { firings = fired st job.block + (progress_at st.progress job.block).claimed; claimed = 0 })

committed_is : (net : Network) (can : CanRun net) (caps : Capacities) (st : State) (sound : Sound net caps st) (own : Bool) (job : Job) (count : ℕ) → (commit_of net st own job).0 ≡ Did count → IsCommitted net st job (commit_of net st own job).1
unfolding commit_of
committed_is net can caps st sound own job count =
    let s = progress_at st.progress job.block in
    if_both (is_in_flight net st own job) _ _ (λ (r : Reply × State). r.0 ≡ Did count → IsCommitted net st job r.1)
    (λ e _. let flight = sounds.in_flight net can caps st sound own job e in
    record {
      inside = flight.member;
      some = flight.some;
      same = jobs_same job (job_of net st job.block s.claimed) (and_parts (own && nat_lt job.block (length net.nodes) && nat_lt 0 s.claimed) (jobs_agree job (job_of net st job.block s.claimed)) e).1;
      is = refl;
    })
    (λ _ e. absurd (cc))

job_first : (net : Network) (st : State) (b count : ℕ) → ((job_of net st b count).first ≡ fired st b) × ((job_of net st b count).count ≡ count)
unfolding job_of
job_first net st b count = (refl, refl)

pub committing_holds : CommittingHolds
committing_holds net caps st stored can sound holds own job count outputs word worked e =
    let is = committed_is net can caps st sound own job count e in
    let b = job.block in
    let c = (progress_at st.progress job.block).claimed in
    let first : job.first ≡ fired st job.block = ap (λ (j : Job). j.first) is.same ∙ (job_first net st job.block c).0 in
    let counts : job.count ≡ (progress_at st.progress job.block).claimed = ap (λ (j : Job). j.count) is.same ∙ (job_first net st job.block c).1 in
    subst (λ after. Holds net caps after (with_committed net caps st stored job outputs word)) (sym is.is)
    (subst (λ (j : Job). Holds net caps (with_progress st job.block (record (progress_at st.progress job.block) { firings = fired st job.block + (progress_at st.progress job.block).claimed; claimed = 0 })) (with_committed net caps st stored j outputs word))
    (λ i. record job { first = sym first i; count = sym counts i })
    (committed_holds net can caps st sound stored holds job.block is.inside is.some job.windows (ap (λ (j : Job). j.windows) is.same) outputs word worked))

pub readers_take_in_turn : ReadersTakeInTurn
readers_take_in_turn net caps st stored can sound holds b q outputs word in' some worked used = worked_turn net can caps st sound stored holds b in' some outputs word worked q used
