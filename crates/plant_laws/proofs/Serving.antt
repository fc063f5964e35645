-- What is stored serves firings that fit.
use Rattle.std.proofs.Common.{◌≡◌, ◌≢◌, ℕ, ℤ, ◌+◌, ◌-◌, ◌*◌, ◌<◌, ◌≤◌, Bool, true, false, not, List, [], ◌∷◌, length, map, take, All, Option, Some, None, IsTrue, get_or, refl, arith, ap, sym, ◌∙◌, subst, inl, inr}
use Rattle.std.specs.Prelude.{nat_le, nat_lt, ◌&&◌, slice_range}
use Rattle.std.specs.Option.{option_map_or, IfSome}
use Rattle.std.proofs.Math.Nat.{zero-add, mul-add}
use Rattle.std.proofs.lemmas.Bool.{cases_Bool, leb-true, and_parts}
use Rattle.std.proofs.lemmas.List.{length-map, get_or-map, length-take-le, take-take, same_lists, get_or_default}
use Rattle.std.proofs.lemmas.List.Elements.{All-map, All-weaker, filter_passes}
use Rattle.stream_model.specs.declared.vocabulary.Role.{Role}
use Rattle.stream_model.specs.declared.vocabulary.Role.TheVariants.{Source, Work, Keep, Discard}
use Rattle.stream_model.specs.Lists.{window}
use Rattle.stream_model.specs.Tags.{sorted_tags, tags_within}
use Rattle.stream_model.specs.Meaning.{input, windows_of, KeepsRole}
use Rattle.stream_model.specs.Network.{Network, Connection, State, node_at, handed_at, progress_at, role_at, is_source, writers_of, writer_of, no_connection, readers_of, used_outputs, taken_by, given_by, fires, items_of, entering, tags_of, chosen}
use Rattle.stream_model.specs.Claims.{Fires}
use Rattle.stream_model.specs.Machine.{Capacities, capacity_at, counts_of, job_of}
use Rattle.stream_model.proofs.Streams.{taken_by-rises, given_by-rises, elim-true, elim-false}
use Rattle.stream_laws.specs.CanRun.{CanRun}
use Rattle.stream_laws.specs.Tags.{tags_in, brought}
use Rattle.stream_laws.proofs.Cuts.{window-same}
use Rattle.stream_laws.proofs.InTime.{no_tag_is_late}
use Rattle.stream_laws.proofs.Past.{tags-source}
use Rattle.machine_laws.proofs.Frames.{handed_same}
use Rattle.machine_laws.proofs.Lengths.{reached_fires}
use Rattle.machine_laws.proofs.Ports.{source_alone, writers_all}
use Rattle.stream_laws.proofs.Later.{items-length}
use Rattle.stream_laws.proofs.Writers.{is_input, at_input, entering-input, entering-source, length-entering, source_gives, source_takes}
use Rattle.machine_laws.specs.Sound.{fired, reached, Sound}
use Rattle.machine_laws.proofs.Deciding.{Reason, decide-reason}
use Rattle.machine_laws.proofs.Looking.{claim_fits}
use Rattle.machine_laws.proofs.Tagging.{commits_add_their_tags}
use Rattle.ring_readers.specs.declared.reader.ReaderState.{ReaderState}
use Rattle.ring_readers.specs.State.{RingState, IsEndOf, most_kept, nobody, place_in, reader_at, past_of, slowest_of, room_of, IsLive}
use Rattle.ring_readers.proofs.SlowestReader.{AtMost, slowest-meets, slowest-least}
use Rattle.buffers.proofs.Wanted.{within_wanted}
use Rattle.plant_laws.specs.Stored.{OutputBuffer, Stored, tape_at, timeline_at, word_at, buffer_at}
use Rattle.plant_laws.specs.Holds.{IsBuffer, ShowsOutput, Holds, place_of, has_no_reader, tags_given}
use Rattle.plant_laws.specs.Changes.{tags_waiting, tags_brought}
use Rattle.plant_laws.specs.Claims.{MayFire, IsSeen, takes, input_buffer, input_reader, tape_windows, held_over, ServesInput, ServesOutput, Serves, FiringsAreServed, ClaimsMayFire, FlightsMayFire}
use Rattle.plant_laws.proofs.Inserting.{within-part}
use Rattle.plant_laws.proofs.Staying.{tags_taken-alike, readers_all}
use Rattle.plant_laws.proofs.Numbering.{number_inside, number_reads}
use Rattle.plant_laws.proofs.Windows.{kept_end, window-now, windows-at, length-windows, held_is}
use Rattle.plant_laws.proofs.Readers.{none_reads, read_lives, output_used}

module _ (net : Network) (can : CanRun net) (caps : Capacities) (st : State) (sound : Sound net caps st) where
  -- the tags that firings brought are the stream's, below what they gave
  pub tags_given-right : (b p : ℕ) → b < length net.nodes →
      tags_within 0 (given_by (node_at net b) (fired st b)) (tags_given net st.handed b p (fired st b)) ≡ tags_within 0 (given_by (node_at net b) (fired st b)) (tags_of net st.handed b p)
  tags_given-right b p in' =
      let k = fired st b in
      let x = tags_within 0 k (sorted_tags (handed_at st.handed b).tags) in
      let y = sorted_tags (brought (node_at net b) p 0 k (tags_in net st.handed b)) in
      elim (cases_Bool (is_source (role_at net b))) [
        | inl e ↦ (let given = source_gives net can b k e in
            ap (tags_within 0 (given_by (node_at net b) k)) (elim-true (is_source (role_at net b)) x y e)
            ∙ within-part 0 k 0 (given_by (node_at net b) k) (sorted_tags (handed_at st.handed b).tags) (omega arith) (omega arith)
            ∙ ap (tags_within 0 (given_by (node_at net b) k)) (sym (tags-source net can st.handed b p in' e)))
        | inr e ↦ ap (tags_within 0 (given_by (node_at net b) k)) (elim-false (is_source (role_at net b)) x y e) ∙ (commits_add_their_tags net caps st can sound b in' e p).before
      ]

  module _ (stored : Stored) (holds : Holds net caps st stored) (b count : ℕ) (may : MayFire net caps st b count) where
    module _ (q : ℕ) (used : q < length (writers_of net b)) where
      abbrev c : Connection
      c = writer_of net b q

      abbrev buffer : OutputBuffer
      buffer = input_buffer net stored b q

      abbrev reader : ℕ
      reader = input_reader net b q

      abbrev from : ℕ
      from = taken_by (node_at net b) q (fired st b)

      abbrev to : ℕ
      to = taken_by (node_at net b) q (fired st b + count)

      is_buffer : IsBuffer net caps st (c).from (c).out_port (buffer)
      is_buffer = holds.buffers (c).from (c).out_port (is_input net can b q used).from (output_used net can b q used)

      -- the reader's place
      pub place_here : reader_at (buffer).ring (reader) ≡ place_of net st (c)
      place_here =
          ap (λ ps. place_in ps (reader)) (is_buffer).readers
          ∙ get_or-map (place_of net st) (readers_of net (c).from (c).out_port) (reader) no_connection nobody (number_inside net can b q used)
          ∙ ap (place_of net st) (number_reads net can b q used)

      reader_lives : (reader_at (buffer).ring (reader)).live ≡ true
      reader_lives =
          let here = ap (λ (p : ReaderState). p.live) (place_here) in
          let own = ap (λ k. (progress_at st.progress k).done) (is_input net can b q used).to in
          here ∙ ap not (own ∙ may.live)

      pub is_live : IsLive (buffer).ring (reader)
      is_live = record { there = (let long = ap length (is_buffer).readers in let l = length-map (readers_of net (c).from (c).out_port) (place_of net st) in let i = number_inside net can b q used in omega arith); live = reader_lives }

      place_is : (reader_at (buffer).ring (reader)).place ≡ from
      place_is =
          let is = is_input net can b q used in
          ap (λ (p : ReaderState). p.place) (place_here) ∙ (rw (is.to, is.in_port) refl)

      past_is : past_of (buffer).ring (reader) ≡ (node_at net b).meaning.history - 1
      past_is =
          let is = is_input net can b q used in
          ap (λ (p : ReaderState). p.history - 1) (place_here) ∙ ap (λ k. (node_at net k).meaning.history - 1) is.to

      -- it is read, so it shows what was given
      pub is_read : has_no_reader net caps st (c).from (c).out_port ≡ false
      is_read =
          elim (cases_Bool (has_no_reader net caps st (c).from (c).out_port)) [
            | inl e ↦ absurd (
                let done = none_reads net caps st (c).from (c).out_port e (reader) no_connection (number_inside net can b q used) in
                let own = ap (λ (d : Connection). (progress_at st.progress d.to).done) (number_reads net can b q used) in
                let here = ap (λ k. (progress_at st.progress k).done) (is_input net can b q used).to in
                let live = may.live in
                cc)
            | inr e ↦ e
          ]

      shows : ShowsOutput net st (c).from (c).out_port (buffer)
      shows = (is_buffer).shows (is_read)

      abbrev given : ℕ
      given = given_by (node_at net (c).from) (fired st (c).from)

      pub enough : to ≤ given
      enough = at_input net can (λ b' q' d. b' ≡ b → taken_by (node_at net b') q' (fired st b + count) ≤ given_by (node_at net d.from) (fired st d.from))
          (λ k d lt e. subst (λ v. taken_by (node_at net v) (get_or net.connections k d).in_port (fired st b + count) ≤ given_by (node_at net (get_or net.connections k d).from) (fired st (get_or net.connections k d).from)) (sym e)
          (may.fits.items k d lt e)) b q used refl

      rises : from ≤ to
      rises = taken_by-rises (node_at net b) (can.sound b) q (fired st b) (fired st b + count) (omega arith)

      there : given ≤ length (items_of net st.handed (c).from (c).out_port)
      there =
          let in1 = (is_input net can b q used).from in
          let most = reached_fires net can caps st sound st.handed (handed_same st.handed) (c).from in1 in
          let long = items-length net can st.handed (c).from (c).out_port in1 in
          let more = given_by-rises (node_at net (c).from) (can.sound (c).from) (fired st (c).from) (fires (node_at net (c).from) (map length (entering net st.handed (c).from))) (omega arith) in
          omega arith

      abbrev shown : List ℤ
      shown = take (given) (items_of net st.handed (c).from (c).out_port)

      pub is_end : IsEndOf (buffer).ring (shown)
      is_end = kept_end (shown) (buffer).ring.kept (buffer).ring.written (most_kept (buffer).ring.capacity (buffer).ring.greatest)
          (length-take-le (given) (items_of net st.handed (c).from (c).out_port) (there) ∙ sym (shows).written) (shows).items

      other : is_source (role_at net b) ≡ false
      other = elim (cases_Bool (is_source (role_at net b))) [
        | inl e ↦ absurd (source_alone-writers e)
        | inr e ↦ e
      ]
        where
          source_alone-writers : is_source (role_at net b) ≡ true → ⊥
          source_alone-writers e = (writers_all net can (λ d. d.to ≢ b) b (source_alone net can b e) q no_connection used).1 (is_input net can b q used).to

      entered : input (entering net st.handed b) q ≡ items_of net st.handed (c).from (c).out_port
      entered = entering-input net st.handed b q (other) used

      pub job_window : input (job_of net st b count).windows q ≡ window (input (entering net st.handed b) q) ((node_at net b).meaning.history - 1) (from) (to)
      unfolding job_of
      job_window =
          let n = node_at net b in
          let whole : n.multiple * fired st b + n.multiple * count ≡ n.multiple * (fired st b + count) = sym (mul-add n.multiple (fired st b) count) in
          windows-at n.meaning 0 (entering net st.handed b) (n.multiple * fired st b) (n.multiple * count) q (let l = length-entering net st.handed b (other) in omega arith)
          ∙ ap (λ p. window (input (entering net st.handed b) q) (n.meaning.history - 1) (n.meaning.taken p (n.multiple * fired st b)) (n.meaning.taken p (n.multiple * fired st b + n.multiple * count))) (zero-add q)
          ∙ ap (λ k. window (input (entering net st.handed b) q) (n.meaning.history - 1) (from) (n.meaning.taken q k)) whole

      seen_window : (xs : List ℤ) → IsSeen (buffer).ring (reader) (takes net st b q count) xs → xs ≡ input (job_of net st b count).windows q
      seen_window xs seen =
          let upto : from + takes net st b q count ≡ to = (let r = rises in omega arith) in
          seen (shown) (is_end)
          ∙ ap (λ h. window (shown) h (reader_at (buffer).ring (reader)).place ((reader_at (buffer).ring (reader)).place + takes net st b q count)) (past_is)
          ∙ ap (λ k. window (shown) ((node_at net b).meaning.history - 1) k (k + takes net st b q count)) (place_is)
          ∙ ap (window (shown) ((node_at net b).meaning.history - 1) (from)) upto
          ∙ window-same (shown) (items_of net st.handed (c).from (c).out_port) ((node_at net b).meaning.history - 1) (from) (to) (take-take (to) (given) (items_of net st.handed (c).from (c).out_port) (enough))
          ∙ sym (ap (λ x. window x ((node_at net b).meaning.history - 1) (from) (to)) (entered))
          ∙ sym (job_window)

      -- the tags that wait on these items
      pub seen_tags : tags_within (from) (to) (buffer).tags ≡ tags_within (from) (to) (tags_of net st.handed (c).from (c).out_port)
      seen_tags =
          let whole = tags_given net st.handed (c).from (c).out_port (fired st (c).from) in
          let least : AtMost (slowest_of (buffer).ring.readers) (from) = subst (AtMost (slowest_of (buffer).ring.readers)) (place_is) (slowest-least (buffer).ring.readers (reader) nobody (is_live).there (reader_lives)) in
          ap (tags_within (from) (to)) (shows).tags
          ∙ within_wanted (slowest_of (buffer).ring.readers) (from) (to) whole least
          ∙ sym (within-part 0 (given) (from) (to) whole (omega arith) (enough))
          ∙ ap (tags_within (from) (to)) (tags_given-right (c).from (c).out_port (is_input net can b q used).from)
          ∙ within-part 0 (given) (from) (to) (tags_of net st.handed (c).from (c).out_port) (omega arith) (enough)

      pub serves_input : ServesInput net st stored b count q
      serves_input =
          record {
            live = is_live;
            place = place_is;
            unread = (let w = (shows).written in let p = place_is in let e = enough in let r = rises in omega arith);
            window = seen_window;
            tags = seen_tags;
          }

    -- the tags that these firings bring, from those that wait, are those of the streams
    pub brought_worker : is_source (role_at net b) ≡ false → (p : ℕ) → tags_brought net stored b p (fired st b) (fired st b + count) ≡ brought (node_at net b) p (fired st b) (fired st b + count) (tags_in net st.handed b)
    brought_worker e p =
        let n = node_at net b in
        let k = fired st b in
        let next = fired st b + count in
        let waiting = tags_waiting net stored b in
        let long : length (tags_waiting net stored b) ≡ length (writers_of net b) = length-map (writers_of net b) (λ (c : Connection). (buffer_at stored c.from c.out_port).tags) in
        let whole : length (tags_in net st.handed b) ≡ length (writers_of net b) = length-map (writers_of net b) (λ (c : Connection). tags_of net st.handed c.from c.out_port) in
        elim-false (is_source (role_at net b)) (tags_within k next (tape_at stored b).tags) (brought n p k next (tags_waiting net stored b)) e
        ∙ ap (chosen n.policy n p 0) (tags_taken-alike n 0 k next (tags_waiting net stored b) (tags_in net st.handed b) (long ∙ sym whole)
        (λ q low.
        let used : q < length (writers_of net b) = omega arith in
        let at = get_or-map (λ (c : Connection). (buffer_at stored c.from c.out_port).tags) (writers_of net b) q no_connection [] used in
        let is = get_or-map (λ (c : Connection). tags_of net st.handed c.from c.out_port) (writers_of net b) q no_connection [] used in
        rw (zero-add q) (ap (tags_within (taken_by n q k) (taken_by n q next)) at ∙ seen_tags q used ∙ sym (ap (tags_within (taken_by n q k) (taken_by n q next)) is))))

    pub brought_source : is_source (role_at net b) ≡ true → (p : ℕ) → tags_brought net stored b p (fired st b) (fired st b + count) ≡ tags_within (fired st b) (fired st b + count) (sorted_tags (handed_at st.handed b).tags)
    brought_source e p =
        let k = fired st b in
        let next = fired st b + count in
        elim-true (is_source (role_at net b)) (tags_within k next (tape_at stored b).tags) (brought (node_at net b) p k next (tags_waiting net stored b)) e
        ∙ ap (tags_within k next) (holds.tapes b may.inside e).tags

    -- and lie on what these firings give, or behind
    pub brought_behind : (p : ℕ) → All (λ t. given_by (node_at net b) (fired st b) ≤ t.offset) (tags_brought net stored b p (fired st b) (fired st b + count))
    brought_behind p =
        let k = fired st b in
        let next = fired st b + count in
        elim (cases_Bool (is_source (role_at net b))) [
          | inl e ↦ (let sorted = sorted_tags (handed_at st.handed b).tags in
              let given = source_gives net can b k e in
              subst (All (λ t. given_by (node_at net b) k ≤ t.offset)) (sym (brought_source e p))
              (All-weaker (λ t. (nat_le k t.offset && nat_lt t.offset next) ≡ true) (λ t. given_by (node_at net b) k ≤ t.offset)
              (λ t on. let low = leb-true k t.offset (and_parts _ _ on).0 in omega arith)
              (tags_within k next sorted) (filter_passes (λ t. nat_le k t.offset && nat_lt t.offset next) sorted)))
          | inr e ↦ subst (All (λ t. given_by (node_at net b) k ≤ t.offset)) (sym (brought_worker e p)) ((no_tag_is_late net can st.handed b p may.inside e).behind k next)
        ]

    module _ (p : ℕ) (used : p < used_outputs net b) (read : has_no_reader net caps st b p ≡ false) where
      ring : RingState
      ring = (buffer_at stored b p).ring

      own : IsBuffer net caps st b p (buffer_at stored b p)
      own = holds.buffers b p may.inside used

      pub behind_each : All (λ pl. IsTrue pl.live → (pl.place ≤ given_by (node_at net b) (fired st b)) × (given_by (node_at net b) (fired st b + count) ≤ pl.place + capacity_at caps b p)) (map (place_of net st) (readers_of net b p))
      behind_each =
          All-map (λ pl. IsTrue pl.live → (pl.place ≤ given_by (node_at net b) (fired st b)) × (given_by (node_at net b) (fired st b + count) ≤ pl.place + capacity_at caps b p)) (place_of net st) (readers_of net b p)
          (λ k d lt live.
          let reader = get_or (readers_of net b p) k d in
          let room = readers_all net (λ c. c.from ≡ b → (progress_at st.progress c.to).done ≡ false → given_by (node_at net b) (fired st b + count) ≤ taken_by (node_at net c.to) c.in_port (fired st c.to) + capacity_at caps b c.out_port) b p may.fits.room k d lt in
          let placed = readers_all net (λ c. taken_by (node_at net c.to) c.in_port (fired st c.to) ≤ given_by (node_at net c.from) (fired st c.from)) b p (given_all) k d lt in
          let open' : (progress_at st.progress reader.to).done ≡ false = not_true (progress_at st.progress reader.to).done live in
          let fits = room.2 room.0 open' in
          let capacity = ap (capacity_at caps b) room.1 in
          let writer = ap (λ v. given_by (node_at net v) (fired st v)) placed.0 in
          let reached' = placed.2 in
          (omega arith, omega arith))
        where
          not_true : (t : Bool) → not t ≡ true → t ≡ false
          not_true true e = cc
          not_true false e = refl

          given_all : All (λ c. taken_by (node_at net c.to) c.in_port (fired st c.to) ≤ given_by (node_at net c.from) (fired st c.from)) net.connections
          given_all = λ k d lt.
              let c = get_or net.connections k d in
              let ends = can.levels.rises k d lt in
              let fits = (sound.fits (get_or net.connections k d).to ends.1).items k d lt refl in
              let rise = taken_by-rises (node_at net (get_or net.connections k d).to) (can.sound (get_or net.connections k d).to) (get_or net.connections k d).in_port (fired st (get_or net.connections k d).to) (reached st (get_or net.connections k d).to) (omega arith) in
              omega arith

      abbrev more : ℕ
      more = given_by (node_at net b) (fired st b + count) - given_by (node_at net b) (fired st b)

      room_at : (o : Option ℕ) → slowest_of (buffer_at stored b p).ring.readers ≡ o → IfSome o (λ place. more ≤ (buffer_at stored b p).ring.capacity - ((buffer_at stored b p).ring.written - place)) →
          more ≤ option_map_or (λ place. (buffer_at stored b p).ring.capacity - ((buffer_at stored b p).ring.written - place)) o (buffer_at stored b p).ring.capacity
      room_at None none fits = absurd (read_lives net caps st b p read (buffer_at stored b p).ring.readers (own).readers none)
      room_at (Some place) some fits = fits

      has_room : more ≤ room_of (buffer_at stored b p).ring
      has_room =
          let written = ((own).shows read).written in
          let capacity = (own).capacity in
          room_at (slowest_of (buffer_at stored b p).ring.readers) refl
          (slowest-meets (λ place. more ≤ (buffer_at stored b p).ring.capacity - ((buffer_at stored b p).ring.written - place)) (buffer_at stored b p).ring.readers
          (subst (All (λ (q : ReaderState). IsTrue q.live → more ≤ (buffer_at stored b p).ring.capacity - ((buffer_at stored b p).ring.written - q.place))) (sym (own).readers)
          (λ k d lt live. let fits = behind_each k d lt live in let low = fits.0 in let high = fits.1 in omega arith)))

      pub serves_output : ServesOutput net caps st stored b count p
      serves_output =
          record {
            written = ((own).shows read).written;
            room = has_room;
            tags = rw ((own).shows read).written (brought_behind p);
          }

    served_word : word_at stored b ≡ (job_of net st b count).word
    unfolding job_of
    served_word = holds.words b may.inside

    served_held : held_over (timeline_at stored b) (taken_by (node_at net b) 0 (fired st b)) (taken_by (node_at net b) 0 (fired st b + count)) ≡ (job_of net st b count).held
    unfolding job_of
    served_held =
        let n = node_at net b in
        ap (λ k. held_over (timeline_at stored b) (n.meaning.taken 0 (n.multiple * fired st b)) (n.meaning.taken 0 k)) (mul-add n.multiple (fired st b) count)
        ∙ held_is n.meaning (handed_at st.handed b).settings (n.multiple * fired st b) (n.multiple * count) n.meaning.own (timeline_at stored b) refl (holds.timelines b may.inside)

    served_count : is_source (role_at net b) ≡ false → length (job_of net st b count).windows ≡ length (writers_of net b)
    unfolding job_of
    served_count e = let n = node_at net b in length-windows n.meaning 0 (entering net st.handed b) (n.multiple * fired st b) (n.multiple * count) ∙ length-entering net st.handed b e

    served_windows : is_source (role_at net b) ≡ false → (windows : List (List ℤ)) → length windows ≡ length (writers_of net b) →
        ((p : ℕ) → p < length (writers_of net b) → IsSeen (input_buffer net stored b p).ring (input_reader net b p) (takes net st b p count) (input windows p)) → windows ≡ (job_of net st b count).windows
    served_windows e windows long seen =
        same_lists windows (job_of net st b count).windows (long ∙ sym (served_count e))
        (λ q d lt.
        let used : q < length (writers_of net b) = omega arith in
        let there : q < length (job_of net st b count).windows = (let l = served_count e in omega arith) in
        get_or_default windows q d [] lt ∙ seen_window q used (input windows q) (seen q used) ∙ get_or_default (job_of net st b count).windows q [] d there)

    served_tape : is_source (role_at net b) ≡ true → tape_windows stored b (fired st b) count ≡ (job_of net st b count).windows
    unfolding job_of
    served_tape e =
        let n = node_at net b in
        let k = fired st b in
        let tape = (handed_at st.handed b).tape in
        let first : n.meaning.taken 0 (n.multiple * fired st b) ≡ fired st b = source_takes net can b k e in
        let next : n.meaning.taken 0 (n.multiple * fired st b + n.multiple * count) ≡ fired st b + count = ap (n.meaning.taken 0) (sym (mul-add n.multiple k count)) ∙ source_takes net can b (k + count) e in
        ap (λ l. slice_range l k (k + count) ∷ []) (holds.tapes b may.inside e).items
        ∙ ap (λ l. l ∷ []) (sym (window-now tape k (k + count)))
        ∙ sym (ap (λ h. window tape (h - 1) k (k + count) ∷ []) (source_history b (role_at net b) refl e))
        ∙ sym (ap (λ a. window tape (n.meaning.history - 1) a (k + count) ∷ []) first)
        ∙ sym (ap (λ a. window tape (n.meaning.history - 1) (n.meaning.taken 0 (n.multiple * fired st b)) a ∷ []) next)
        ∙ sym (ap (λ xs. windows_of n.meaning xs (n.multiple * fired st b) (n.multiple * count)) (entering-source net st.handed b e))
      where
        source_history : (b : ℕ) (r : Role) → role_at net b ≡ r → is_source r ≡ true → (node_at net b).meaning.history ≡ 1
        source_history b Work e source = cc
        source_history b Keep e source = cc
        source_history b Discard e source = cc
        source_history b Source e source = let role : KeepsRole (node_at net b).meaning Source = subst (KeepsRole (node_at net b).meaning) e (can.sound b).lawful.role in role.plain.0

    pub serves : Serves net caps st stored b count
    serves = record { word = served_word; held = served_held; tape = served_tape; windows = served_windows; inputs = serves_input; outputs = serves_output }

pub firings_are_served : FiringsAreServed
firings_are_served net caps st stored can sound holds b count may = serves net can caps st sound stored holds b count may

pub claims_may_fire : ClaimsMayFire
claims_may_fire net caps st can sound b max count in' e =
    let why : Reason (node_at net b) (counts_of net caps st b) max (Fires count) = subst (Reason (node_at net b) (counts_of net caps st b) max) e (decide-reason (node_at net b) (counts_of net caps st b) max) in
    record { inside = in'; live = why.0.live; fits = claim_fits net can caps st b count why.1 }

pub flights_may_fire : FlightsMayFire
flights_may_fire net caps st can sound b in' some =
    record {
      inside = in';
      live = elim (cases_Bool (progress_at st.progress b).done) [ inl e ↦ absurd (let rest = sound.rests b e in omega arith) | inr e ↦ e ];
      fits = sound.fits b in';
    }
