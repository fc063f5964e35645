-- Live readers find their items in the buffers.
use Rattle.std.proofs.Common.{◌≡◌, ℕ, zero, suc, ◌+◌, ◌-◌, ◌<◌, ◌≤◌, max, min, false, not, List, [], ◌∷◌, length, map, fold, All, Option, Some, None, get_or, refl, arith, ap, sym, ◌∙◌, subst, inl, inr, length-drop}
use Rattle.std.specs.Option.{IfSome}
use Rattle.std.proofs.lemmas.Bool.{cases_Bool, cases_lt}
use Rattle.std.proofs.lemmas.List.{length-map, get_or-map, length-take-le}
use Rattle.stream_model.specs.Tags.{Tag, tags_within}
use Rattle.stream_model.specs.Network.{Network, Connection, State, node_at, progress_at, readers_of, used_outputs, taken_by, given_by, fires, items_of, entering, tags_of}
use Rattle.stream_model.specs.Machine.{Capacities, capacity_at}
use Rattle.stream_model.proofs.Streams.{given_by-rises}
use Rattle.stream_laws.specs.CanRun.{CanRun}
use Rattle.stream_laws.proofs.Later.{items-length}
use Rattle.machine_laws.specs.Sound.{fired, reached, Sound}
use Rattle.machine_laws.proofs.Frames.{handed_same}
use Rattle.machine_laws.proofs.Lengths.{reached_fires}
use Rattle.ring_readers.specs.declared.reader.ReaderState.{ReaderState}
use Rattle.ring_readers.specs.State.{IsEndOf, most_kept, slowest_of, nobody}
use Rattle.ring_readers.proofs.SlowestReader.{AtMost, slowest-least}
use Rattle.stream_laws.proofs.InTime.{within-on, within-before, within-behind}
use Rattle.tags.specs.TagList.{tags_from}
use Rattle.tags.proofs.Kept.{kept, dropped, tags_within-from}
use Rattle.buffers.proofs.Wanted.{within_wanted, from_place}
use Rattle.plant_laws.specs.Stored.{OutputBuffer, Stored, buffer_at}
use Rattle.plant_laws.specs.Holds.{IsBuffer, ShowsOutput, Holds, place_of, has_no_reader, greatest_history, tags_given}
use Rattle.plant_laws.specs.Buffers.{given_so_far, Finds, ReadersFindTheirItems, BuffersKeepNoMore}
use Rattle.plant_laws.proofs.Inserting.{within-part}
use Rattle.plant_laws.proofs.Windows.{kept_end}
use Rattle.plant_laws.proofs.Readers.{none_reads}
use Rattle.plant_laws.proofs.Serving.{tags_given-right}
use Rattle.plant_laws.proofs.Staying.{readers_all}

-- no history is greater than the greatest
greatest-from : (net : Network) (cs : List Connection) (h : ℕ) → h ≤ fold (λ h (c : Connection). max h (node_at net c.to).meaning.history) h cs
greatest-from net [] h = omega arith
greatest-from net (c ∷ cs) h = let rest = greatest-from net cs (max h (node_at net c.to).meaning.history) in omega arith

history-within : (net : Network) (cs : List Connection) (h k : ℕ) (d : Connection) → k < length cs → (node_at net (get_or cs k d).to).meaning.history ≤ fold (λ h (c : Connection). max h (node_at net c.to).meaning.history) h cs
history-within net [] h k d lt = absurd (omega arith)
history-within net (c ∷ cs) h zero d lt = let rest = greatest-from net cs (max h (node_at net c.to).meaning.history) in omega arith
history-within net (c ∷ cs) h (suc k) d lt = history-within net cs (max h (node_at net c.to).meaning.history) k d (omega arith)

-- the tags before an item, of those from a place on
within_from : (place to : ℕ) (ts : List Tag) → tags_within 0 to (tags_from place ts) ≡ tags_within place to ts
within_from place to [] = refl
within_from place to (t ∷ ts) =
    let rest = within_from place to ts in
    elim (cases_lt t.offset place) [
      | inl before ↦ ap (tags_within 0 to) (dropped place t ts before) ∙ rest ∙ sym (within-before place to t ts before)
      | inr after ↦ ap (tags_within 0 to) (kept place t ts after) ∙ (elim (cases_lt t.offset to) [
        | inl on ↦ within-on 0 to t (tags_from place ts) (omega arith) on ∙ ap (λ us. t ∷ us) rest ∙ sym (within-on place to t ts after on)
        | inr behind ↦ within-behind 0 to t (tags_from place ts) behind ∙ rest ∙ sym (within-behind place to t ts behind)
      ])
    ]

-- an opened buffer's readers fit
pub history_fits : (net : Network) (b p k : ℕ) (d : Connection) → k < length (readers_of net b p) → (node_at net (get_or (readers_of net b p) k d).to).meaning.history ≤ greatest_history net b p
history_fits net b p k d lt = history-within net (readers_of net b p) 1 k d lt

module _ (net : Network) (can : CanRun net) (caps : Capacities) (st : State) (sound : Sound net caps st) (stored : Stored) (holds : Holds net caps st stored) (b p : ℕ) (in' : b < length net.nodes) (used : p < used_outputs net b) where
  abbrev buffer : OutputBuffer
  buffer = buffer_at stored b p

  abbrev written : ℕ
  written = given_by (node_at net b) (fired st b)

  is : IsBuffer net caps st b p (buffer)
  is = holds.buffers b p in' used

  there : written ≤ length (items_of net st.handed b p)
  there =
      let most = reached_fires net can caps st sound st.handed (handed_same st.handed) b in' in
      let long = items-length net can st.handed b p in' in
      let more = given_by-rises (node_at net b) (can.sound b) (fired st b) (fires (node_at net b) (map length (entering net st.handed b))) (omega arith) in
      omega arith

  module _ (read : has_no_reader net caps st b p ≡ false) where
    shows : ShowsOutput net st b p (buffer)
    shows = (is).shows read

    is_end : IsEndOf (buffer).ring (given_so_far net st b p)
    is_end = kept_end (given_so_far net st b p) (buffer).ring.kept (buffer).ring.written (most_kept (buffer).ring.capacity (buffer).ring.greatest) (length-take-le (written) (items_of net st.handed b p) (there) ∙ sym (shows).written) (shows).items

    kept_count : length (buffer).ring.kept ≡ min (buffer).ring.written (most_kept (buffer).ring.capacity (buffer).ring.greatest)
    kept_count =
        let long = length-take-le (written) (items_of net st.handed b p) (there) in
        let most = most_kept (buffer).ring.capacity (buffer).ring.greatest in
        let count = ap length (shows).items ∙ length-drop (length (given_so_far net st b p) - most) (given_so_far net st b p) in
        let w = (shows).written in
        omega arith

    -- the tags on what was given, from a live reader's place on
    tags_from_place : (place : ℕ) → AtMost (slowest_of (buffer).ring.readers) place → tags_within place (buffer).ring.written (buffer).tags ≡ tags_within place (buffer).ring.written (tags_of net st.handed b p)
    tags_from_place place least =
        let whole = tags_given net st.handed b p (fired st b) in
        let w = (shows).written in
        ap (tags_within place (buffer).ring.written) (shows).tags
        ∙ within_wanted (slowest_of (buffer).ring.readers) place (buffer).ring.written whole least
        ∙ sym (within-part 0 (written) place (buffer).ring.written whole (omega arith) (omega arith))
        ∙ ap (tags_within place (buffer).ring.written) (tags_given-right net can caps st sound b p in')
        ∙ within-part 0 (written) place (buffer).ring.written (tags_of net st.handed b p) (omega arith) (omega arith)

    -- all of them lie there
    tags_kept : (o : Option ℕ) → slowest_of (buffer).ring.readers ≡ o → IfSome o (λ place. tags_within 0 (buffer).ring.written (buffer).tags ≡ tags_within place (buffer).ring.written (tags_of net st.handed b p))
    tags_kept None e = tt
    tags_kept (Some place) e =
        let whole = tags_given net st.handed b p (fired st b) in
        let kept : (buffer).tags ≡ tags_from place whole = (shows).tags ∙ ap (λ o. from_place o whole) e in
        let least : AtMost (slowest_of (buffer).ring.readers) place = subst (λ o. AtMost o place) (sym e) (omega arith) in
        ap (tags_within 0 (buffer).ring.written) kept
        ∙ within_from place (buffer).ring.written whole
        ∙ sym (tags_within-from place place (buffer).ring.written whole (omega arith))
        ∙ sym (ap (tags_within place (buffer).ring.written) kept)
        ∙ tags_from_place place least

  finds : All (λ c. (progress_at st.progress c.to).done ≡ false → Finds net caps st b p (buffer) (place_of net st c)) (readers_of net b p)
  finds = λ k d lt live.
      let c = get_or (readers_of net b p) k d in
      let read : has_no_reader net caps st b p ≡ false = elim (cases_Bool (has_no_reader net caps st b p)) [ inl e ↦ absurd (let done = none_reads net caps st b p e k d lt in cc) | inr e ↦ e ] in
      let here : get_or (buffer).ring.readers k nobody ≡ place_of net st c = ap (λ ps. get_or ps k nobody) (is).readers ∙ get_or-map (place_of net st) (readers_of net b p) k d nobody lt in
      let inside : k < length (buffer).ring.readers = (let long = ap length (is).readers ∙ length-map (readers_of net b p) (place_of net st) in omega arith) in
      let lives = ap (λ (q : ReaderState). q.live) here ∙ ap not live in
      let least : AtMost (slowest_of (buffer).ring.readers) (place_of net st c).place = subst (λ (q : ReaderState). AtMost (slowest_of (buffer).ring.readers) q.place) here (slowest-least (buffer).ring.readers k nobody inside lives) in
      let room = readers_all net (λ e. (e.to < length net.nodes) × (e.from ≡ b → (progress_at st.progress e.to).done ≡ false → given_by (node_at net b) (reached st b) ≤ taken_by (node_at net e.to) e.in_port (fired st e.to) + capacity_at caps b e.out_port)) b p
      (λ i e l. ((can.levels.rises i e l).1, λ from open'. (sound.fits b in').room i e l from open')) k d lt in
      let fits = room.2.1 room.0 live in
      let port = ap (capacity_at caps b) room.1 in
      let rise = given_by-rises (node_at net b) (can.sound b) (fired st b) (reached st b) (omega arith) in
      let w = (shows read).written in
      let count = kept_count read in
      let history = history_fits net b p k d lt in
      let some = (can.sound c.to).lawful.reads_now in
      let capacity = (is).capacity in
      let greatest = (is).greatest in
      record {
        items = is_end read;
        reaches = omega arith;
        near = omega arith;
        tags = tags_from_place read (place_of net st c).place least;
      }

pub readers_find_their_items : ReadersFindTheirItems
readers_find_their_items net caps st stored can sound holds b p in' used = finds net can caps st sound stored holds b p in' used

pub buffers_keep_no_more : BuffersKeepNoMore
buffers_keep_no_more net caps st stored can sound holds b p in' used read =
    record {
      items = kept_count net can caps st sound stored holds b p in' used read;
      tags = subst (λ places. IfSome (slowest_of places) (λ place. tags_within 0 (buffer_at stored b p).ring.written (buffer_at stored b p).tags ≡ tags_within place (buffer_at stored b p).ring.written (tags_of net st.handed b p)))
          (holds.buffers b p in' used).readers (tags_kept net can caps st sound stored holds b p in' used read (slowest_of (buffer_at stored b p).ring.readers) refl);
    }
