-- What an output is given, and what its sink collects.
use Rattle.std.proofs.Common.{◌≡◌, ◌≢◌, ℕ, zero, suc, ◌+◌, ◌<◌, ◌≤◌, Bool, true, false, List, [], ◌∷◌, ◌++◌, map, length, get_or, set, drop, is_some, refl, arith, ap, sym, ◌∙◌, subst, All, add-one, drop-cons, get_or-set_same, length-append, length-drop, length-set, append_assoc, append-nil, zero-add, ℤ, ◌^◌}
use Rattle.std.specs.Prelude.{if◌then◌else◌}
use Rattle.std.proofs.Math.Seq.{set-append_seam}
use Rattle.std.proofs.Math.ListN as lists
use Rattle.std.proofs.lemmas.List.{length-map, get_or-map, set-get_or, set-set, drop_all}
use Rattle.std.proofs.lemmas.List.FromFn.{map-range_with_len_more, length-map-range_with_len, length-range_with_len, get_or-range_with_len}
use Rattle.std.proofs.lemmas.Slice.Zip.{AllZip-long}
use Rattle.stream_model.specs.Lists.{below}
use Rattle.stream_model.specs.Tags as model
use Rattle.stream_model.specs.Tags.{tags_within}
use Rattle.stream_model.specs.Network as network
use Rattle.stream_model.specs.Network.{Network, no_connection, role_at, is_source, node_at, writers_of, writer_of, used_outputs, taken_by}
use Rattle.stream_model.specs.Meaning.{input}
use Rattle.stream_laws.specs.CanRun.{CanRun}
use Rattle.stream_laws.specs.Tags.{brought}
use Rattle.machine_laws.proofs.Ports.{writers_all}
use Rattle.items.specs.declared.marks.Tag.{Tag}
use Rattle.items.specs.declared.stream_items.Items.{Items}
use Rattle.items.specs.Items.{numbers_of}
use Rattle.items.specs.Tags.{tag_of}
use Rattle.std.specs.List.{AllZip}
use Rattle.ring_readers.specs.State.{RingState, IsLive, slowest_of, reader_at, unread_of, room_of}
use Rattle.tags.specs.TagList.{insert_tags}
use Rattle.buffers.specs.Buffer.{BufferState}
use Rattle.recordings.specs.Recording.{RecordingState}
use Rattle.plant_laws.specs.Stored as stored
use Rattle.plant_laws.specs.Stored.{OutputBuffer, Collected, nothing_collected, buffers_in, buffer_in, buffer_at, tape_at}
use Rattle.plant_laws.specs.Changes.{pushed, collected, tags_waiting, tags_brought}
use Rattle.plant_storage.specs.declared.intake.Intake.{Intake}
use Rattle.plant_storage.specs.Stores.{buffer_of, collected_of}
use Rattle.plant_storage.specs.Delivery.{is_read, delivered_to, delivered_buffers, CanGive}
use Rattle.plant_transfers.specs.Rows.{state_in, with_buffer, OthersStay}
use Rattle.plant_transfers.specs.Steps.{stored_with, CanRead, CanGiveTo, CanGiveAll}
use Rattle.plant_storage.specs.Lending.{takes_between}
use Rattle.plant_laws.specs.Claims.{input_reader}
use Rattle.plant_transfers.proofs.States as states
use Rattle.plant_transfers.proofs.States.{Row, rows, outputs}

-- whether a buffer is read, as a call sees it
pub read_is : (vs : List Row) (b p : ℕ) (row : Row) (s : BufferState) → b < length (rows vs) → p < length (get_or (rows vs) b []) → s ≡ get_or (get_or vs b row).items p s →
    is_read (buffer_in (outputs vs) b p) ≡ is_some (slowest_of s.ring.readers)
read_is vs b p row s block port s_is =
    let in' : b < length vs = (let same = length-map vs states.items_of in omega arith) in
    let found = states.found_there vs b p row s in' port s_is in
    ap (λ (o : OutputBuffer). is_read o) (states.buffer_at (rows vs) b p) ∙ ap (λ (t : BufferState). is_some (slowest_of t.ring.readers)) (sym found)

-- tags that lie ahead, as the buffer has them
pub ahead_of : (vs : List Row) (b p : ℕ) (us : List Tag) (ts : List model.Tag) → map tag_of us ≡ ts → All (λ t. (buffer_in (outputs vs) b p).ring.written ≤ t.offset) ts →
    All (λ t. (state_in (rows vs) b p).ring.written ≤ t.offset) us
ahead_of vs b p us ts same ahead = λ k d lt.
    let here : (buffer_in (outputs vs) b p).ring.written ≤ (get_or (map tag_of us) k (tag_of d)).offset = (subst (All (λ (t : model.Tag). (buffer_in (outputs vs) b p).ring.written ≤ t.offset)) (sym same) ahead) k (tag_of d) (rw length-map lt) in
    let at = ap (λ (t : model.Tag). t.offset) (get_or-map tag_of us k d (tag_of d) lt) in
    let written = ap (λ (o : OutputBuffer). o.ring.written) (states.buffer_at (rows vs) b p) in
    omega arith

-- a buffer that is not read stays
pub unread_stays : (outs : List (List OutputBuffer)) (b p : ℕ) (xs : List ℤ) (ts : List model.Tag) → is_read (buffer_in outs b p) ≡ false → outs ≡ with_buffer outs b p (λ buffer. delivered_to buffer xs ts)
unread_stays outs b p xs ts none =
    let o = buffer_in outs b p in
    let same : delivered_to o xs ts ≡ o = ap (λ (t : Bool). if t then pushed o xs ts else o) none in
    sym (ap (λ x. set outs b (set (buffers_in outs b) p x)) same ∙ ap (set outs b) (set-get_or (buffers_in outs b) p stored.no_buffer) ∙ set-get_or outs b [])

-- the row of a block, of which the first outputs are written over
module _ (start : List (List OutputBuffer)) (b : ℕ) (in' : b < length start) (f : ℕ → OutputBuffer) where
  abbrev pub so_far : ℕ → List (List OutputBuffer)
  so_far q = set start b (map f (below q) ++ drop q (buffers_in start b))

  pub all_done : (n : ℕ) → length (buffers_in start b) ≤ n → so_far n ≡ set start b (map f (below n))
  all_done n over = ap (λ row. set start b (map f (below n) ++ row)) (drop_all n (buffers_in start b) over) ∙ ap (set start b) (append-nil (map f (below n)))

  row_now : (q : ℕ) → buffers_in (so_far q) b ≡ map f (below q) ++ drop q (buffers_in start b)
  row_now q = get_or-set_same start b (map f (below q) ++ drop q (buffers_in start b)) [] in'

  pub row_long : (q : ℕ) → q ≤ length (buffers_in start b) → length (buffers_in (so_far q) b) ≡ length (buffers_in start b)
  row_long q less =
      let one = length-append (map f (below q)) (drop q (buffers_in start b)) in
      let two = length-map-range_with_len f 0 q in
      let three = length-drop q (buffers_in start b) in
      ap length (row_now q) ∙ (let e : length (map f (below q) ++ drop q (buffers_in start b)) ≡ length (buffers_in start b) = omega arith in e)

  written_over : (q : ℕ) (v : OutputBuffer) → q < length (buffers_in start b) → set (map f (below q) ++ drop q (buffers_in start b)) q v ≡ map f (below q) ++ v ∷ drop (suc q) (buffers_in start b)
  written_over q v less =
      ap (λ row. set (map f (below q) ++ row) q v) (drop-cons (buffers_in start b) q stored.no_buffer less)
      ∙ ap (λ k. set (map f (below q) ++ get_or (buffers_in start b) q stored.no_buffer ∷ drop (suc q) (buffers_in start b)) k v) (sym (length-map-range_with_len f 0 q))
      ∙ set-append_seam (map f (below q)) (get_or (buffers_in start b) q stored.no_buffer) (drop (suc q) (buffers_in start b)) v

  pub one_more : (q : ℕ) (v : OutputBuffer) → q < length (buffers_in start b) → v ≡ f q → set (so_far q) b (set (buffers_in (so_far q) b) q v) ≡ so_far (q + 1)
  one_more q v less is =
      ap (λ row. set (so_far q) b (set row q v)) (row_now q)
      ∙ set-set start b (map f (below q) ++ drop q (buffers_in start b)) (set (map f (below q) ++ drop q (buffers_in start b)) q v)
      ∙ ap (set start b) (written_over q v less
      ∙ ap (λ w. map f (below q) ++ w ∷ drop (suc q) (buffers_in start b)) is
      ∙ sym (append_assoc (map f (below q)) (f q ∷ []) (drop (suc q) (buffers_in start b)))
      ∙ ap (λ row. row ++ drop (suc q) (buffers_in start b)) (sym (map-range_with_len_more f 0 q q (zero-add q)))
      ∙ ap (λ k. map f (below (q + 1)) ++ drop k (buffers_in start b)) (sym (add-one q)))

map_alike : {A B : Type 0} (f g : A → B) (xs : List A) (P : A → Type 0) → ((x : A) → P x → f x ≡ g x) → ((k : ℕ) (d : A) → k < length xs → P (get_or xs k d)) → map f xs ≡ map g xs
map_alike f g [] P same all = refl
map_alike f g (x ∷ xs) P same all =
    let here = same x (all 0 x (omega arith)) in
    let rest = map_alike f g xs P same (λ k d lt. all (suc k) d (omega arith)) in
    λ i. here i ∷ rest i

-- no connection leads from a block to itself
pub other_blocks : (net : Network) → CanRun net → (b : ℕ) → All (λ (c : network.Connection). c.from ≢ b) (writers_of net b)
other_blocks net can b = λ k d lt e.
    let is = writers_all net can (λ c. (c.from < length net.nodes) × (c.to < length net.nodes) × (can.level c.from < can.level c.to)) b can.levels.rises k d lt in
    let from = ap can.level e in
    let to = ap can.level is.0 in
    let lower = is.1.2 in
    absurd (omega arith)

-- as long as only its own buffers change, a block reads the same
module _ (net : Network) (can : CanRun net) (hs : List Intake) (old new : List (List BufferState)) (b : ℕ) (rest : (a q : ℕ) → (a ≡ b → ⊥) → state_in new a q ≡ state_in old a q) where
  buffer_stays : (a q : ℕ) → (a ≡ b → ⊥) → buffer_at (stored_with hs new) a q ≡ buffer_at (stored_with hs old) a q
  buffer_stays a q ne = states.buffer_at new a q ∙ ap buffer_of (rest a q ne) ∙ sym (states.buffer_at old a q)

  pub waiting_stays : tags_waiting net (stored_with hs new) b ≡ tags_waiting net (stored_with hs old) b
  waiting_stays =
      map_alike (λ (c : network.Connection). (buffer_at (stored_with hs new) c.from c.out_port).tags) (λ (c : network.Connection). (buffer_at (stored_with hs old) c.from c.out_port).tags) (writers_of net b)
      (λ c. c.from ≢ b) (λ c ne. ap (λ (o : OutputBuffer). o.tags) (buffer_stays c.from c.out_port ne)) (other_blocks net can b)

  pub brought_stays : (p k next : ℕ) → tags_brought net (stored_with hs new) b p k next ≡ tags_brought net (stored_with hs old) b p k next
  brought_stays p k next =
      ap (λ waiting. elim (is_source (role_at net b)) [
        | true ↦ tags_within k next (tape_at (stored_with hs old) b).tags
        | false ↦ brought (node_at net b) p k next waiting
      ]) waiting_stays

  pub reads_stay : (k next : ℕ) → CanRead net (stored_with hs old) b k next → CanRead net (stored_with hs new) b k next
  reads_stay k next reads = record {
    inside = reads.inside;
    rises = reads.rises;
    words = reads.words;
    kept = reads.kept;
    inputs = λ p in'.
        let has = reads.inputs p in' in
        let c = writer_of net b p in
        let same = ap (λ (o : OutputBuffer). o.ring) (sym (buffer_stays c.from c.out_port (other_blocks net can b p no_connection in'))) in
        record {
          live = subst (λ (z : RingState). IsLive z (input_reader net b p)) same has.live;
          place = subst (λ (z : RingState). (reader_at z (input_reader net b p)).place ≡ taken_by (node_at net b) p k) same has.place;
          history = subst (λ (z : RingState). (reader_at z (input_reader net b p)).history ≡ (node_at net b).meaning.history) same has.history;
          unread = subst (λ (z : RingState). takes_between net b p k next ≤ unread_of z (input_reader net b p)) same has.unread;
          rises = has.rises;
          type = ap (λ (o : OutputBuffer). o.item) (buffer_stays c.from c.out_port (other_blocks net can b p no_connection in')) ∙ has.type;
        };
  }

  -- and an output that did not change can be given what it could be given
  pub gives_stays : (capacity p k next : ℕ) (out : Items) → state_in new b p ≡ state_in old b p → b < length new → p < length (get_or new b []) →
      CanGive net (stored_with hs old) b p k next out →
      length (tags_brought net (stored_with hs old) b p k next) ≤ (state_in old b p).spare → length (tags_brought net (stored_with hs old) b p k next) ≤ capacity →
      CanGiveTo net hs new capacity b p k next out
  gives_stays capacity p k next out here block port gives room list =
      let at : buffer_at (stored_with hs old) b p ≡ buffer_at (stored_with hs new) b p = states.buffer_at old b p ∙ ap buffer_of (sym here) ∙ sym (states.buffer_at new b p) in
      let tags = brought_stays p k next in
      record {
        block = block;
        port = port;
        gives = record {
          type = gives.type ∙ ap (λ (o : OutputBuffer). o.item) at;
          room = subst (λ (o : OutputBuffer). is_read o ≡ true → length (numbers_of out) ≤ room_of o.ring) at gives.room;
          small = subst (λ (o : OutputBuffer). is_read o ≡ true → o.ring.written + length (numbers_of out) < 2 ^ 62) at gives.small;
          ahead = subst (λ ts. is_read (buffer_at (stored_with hs new) b p) ≡ true → All (λ t. (buffer_at (stored_with hs new) b p).ring.written ≤ t.offset) ts) (sym tags)
              (subst (λ (o : OutputBuffer). is_read o ≡ true → All (λ t. o.ring.written ≤ t.offset) (tags_brought net (stored_with hs old) b p k next)) at gives.ahead);
        };
        room = (let long = ap length tags in let spare = ap (λ (s : BufferState). s.spare) here in omega arith);
        list = (let long = ap length tags in omega arith);
      }

-- what a sink has after a push
pub kept_is : (sinks : List RecordingState) (b : ℕ) (d t : RecordingState) (xs : List ℤ) (ts : List model.Tag) → b < length sinks → t.item ≡ (get_or sinks b d).item → t.from ≡ (get_or sinks b d).from → t.items ≡ (get_or sinks b d).items ++ xs → t.tags ≡ insert_tags ts (get_or sinks b d).tags →
    collected_of t ≡ collected (get_or (map collected_of sinks) b nothing_collected) xs ts
kept_is sinks b d t xs ts in' item from items tags =
    let own : collected_of (get_or sinks b d) ≡ get_or (map collected_of sinks) b nothing_collected = sym (get_or-map collected_of sinks b d nothing_collected in') in
    let is : collected_of t ≡ collected (collected_of (get_or sinks b d)) xs ts = λ i. record { item = item i; items = items i; tags = tags i; from = from i } in
    is ∙ ap (λ (o : Collected). collected o xs ts) own

-- a pair of lists, place by place
pub zip_at : {A B : Type 0} (R : A → B → Type 0) (xs : List A) (ys : List B) (i : ℕ) (d : A) (e : B) → AllZip R xs ys → i < length xs → R (get_or xs i d) (get_or ys i e)
zip_at R [] ys i d e all in' = absurd (omega arith)
zip_at R (x ∷ xs) [] i d e all in' = absurd all
zip_at R (x ∷ xs) (y ∷ ys) zero d e all in' = all.0
zip_at R (x ∷ xs) (y ∷ ys) (suc i) d e all in' = zip_at R xs ys i d e all.1 (omega arith)

-- a turn over the outputs
module _ (net : Network) (hs : List Intake) (start : List (List BufferState)) (b k next : ℕ) (outs : List Items) where
  abbrev pub given_at : ℕ → OutputBuffer
  given_at p = delivered_to (buffer_at (stored_with hs start) b p) (input (map numbers_of outs) p) (tags_brought net (stored_with hs start) b p k next)

  abbrev pub given_up_to : ℕ → List (List OutputBuffer)
  given_up_to q = set (map (map buffer_of) start) b (map given_at (below q) ++ drop q (buffers_in (map (map buffer_of) start) b))

  -- of the outputs that did not come as yet, and of other blocks, nothing changed
  abbrev pub RestStays : ℕ → List (List BufferState) → Type 0
  RestStays q now = (a p : ℕ) → (a ≡ b → p < q → ⊥) → state_in now a p ≡ state_in start a p

  module _ (now after : List (List BufferState)) (q : ℕ) (out : Items) (d : Items) (block : b < length start) (port : q < length (get_or start b [])) (sofar : map (map buffer_of) now ≡ given_up_to q) (rest : RestStays q now)
      (is : out ≡ get_or outs q d) (inside : q < length outs) where
    row_there : q < length (buffers_in (map (map buffer_of) start) b)
    row_there = let long = ap length (lists.get_or-map (map buffer_of) start b []) in let each = length-map (get_or start b []) buffer_of in omega arith

    block_there : b < length (map (map buffer_of) start)
    block_there = rw length-map block

    pub blocks_now : b < length now
    blocks_now =
        let one = ap length sofar in
        let two = length-map now (map buffer_of) in
        let three = length-set (map (map buffer_of) start) b (map given_at (below q) ++ drop q (buffers_in (map (map buffer_of) start) b)) in
        let four = length-map start (map buffer_of) in
        omega arith

    pub port_now : q < length (get_or now b [])
    port_now =
        let one = ap (λ outs. length (buffers_in outs b)) sofar in
        let two = row_long (map (map buffer_of) start) b block_there given_at q (let h = row_there in omega arith) in
        let three = ap length (lists.get_or-map (map buffer_of) now b []) in
        let four = length-map (get_or now b []) buffer_of in
        let there = row_there in
        omega arith

    pub more_given : (ts : List model.Tag) → ts ≡ tags_brought net (stored_with hs start) b q k next →
        map (map buffer_of) after ≡ with_buffer (map (map buffer_of) now) b q (λ buffer. delivered_to buffer (numbers_of out) ts) → map (map buffer_of) after ≡ given_up_to (q + 1)
    more_given ts tags e =
        let same : buffer_in (map (map buffer_of) now) b q ≡ buffer_at (stored_with hs start) b q = states.buffer_at now b q ∙ ap buffer_of (rest b q (λ _ less. absurd (omega arith))) ∙ sym (states.buffer_at start b q) in
        let items : numbers_of out ≡ input (map numbers_of outs) q = ap numbers_of is ∙ sym (get_or-map numbers_of outs q d [] inside) in
        let value : delivered_to (buffer_in (map (map buffer_of) now) b q) (numbers_of out) ts ≡ given_at q =
        ap (λ o. delivered_to o (numbers_of out) ts) same ∙ ap (λ xs. delivered_to (buffer_at (stored_with hs start) b q) xs ts) items
        ∙ ap (delivered_to (buffer_at (stored_with hs start) b q) (input (map numbers_of outs) q)) tags in
        e
        ∙ ap (λ os. set os b (set (buffers_in os b) q (delivered_to (buffer_in (map (map buffer_of) now) b q) (numbers_of out) ts))) sofar
        ∙ one_more (map (map buffer_of) start) b block_there given_at q (delivered_to (buffer_in (map (map buffer_of) now) b q) (numbers_of out) ts) row_there value

    pub more_rest : OthersStay b q now after → RestStays (q + 1) after
    more_rest others = λ a p ne. others a p (λ e f. ne e (omega arith)) ∙ rest a p (λ e less. ne e (omega arith))

-- how many items of its first input the first firings of a block take
abbrev pub first_taken : Network → ℕ → ℕ → ℕ
first_taken net b k = taken_by (node_at net b) 0 k

module _ (net : Network) (can : CanRun net) (hs : List Intake) (start : List (List BufferState)) (capacity b k next : ℕ) (outs : List Items) (all : CanGiveAll net hs start capacity b k next outs) where
  start_block : b < length start
  start_block = let same = all.blocks in let in' = all.reads.inside in omega arith

  outs_long : length outs ≡ used_outputs net b
  outs_long = AllZip-long (λ p out. CanGive net (stored_with hs start) b p k next out) (below (used_outputs net b)) outs all.gives ∙ length-range_with_len 0 (used_outputs net b)

  module _ (now : List (List BufferState)) (q : ℕ) (sofar : map (map buffer_of) now ≡ given_up_to net hs start b k next outs q) (rest : RestStays net hs start b k next outs q now) where
    pub reads_now : CanRead net (stored_with hs now) b k next
    reads_now = reads_stay net can hs start now b (λ a p ne. rest a p (λ e _. ne e)) k next all.reads

    module _ (out : Items) (is : out ≡ get_or outs q out) (inside : q < length outs) where
      used : q < used_outputs net b
      used = let long = outs_long in omega arith

      port : q < length (get_or start b [])
      port = let long = outs_long in let same = all.ports in omega arith

      gives_here : CanGive net (stored_with hs start) b q k next out
      gives_here =
          let low : q < length (below (used_outputs net b)) = (let long = length-range_with_len 0 (used_outputs net b) in let in' = used in omega arith) in
          let at = zip_at (λ p o. CanGive net (stored_with hs start) b p k next o) (below (used_outputs net b)) outs q 0 out all.gives low in
          let number : get_or (below (used_outputs net b)) q 0 ≡ q = get_or-range_with_len 0 (used_outputs net b) q 0 used ∙ zero-add q in
          subst (λ o. CanGive net (stored_with hs start) b q k next o) (sym is) (subst (λ p. CanGive net (stored_with hs start) b p k next (get_or outs q out)) number at)

      pub gives_now : (room : ℕ) → room ≡ capacity → CanGiveTo net hs now room b q k next out
      gives_now room same =
          gives_stays net can hs start now b (λ a p ne. rest a p (λ e _. ne e)) room q k next out (rest b q (λ _ less. absurd (omega arith)))
          (blocks_now net hs start b k next outs now now q out out start_block port sofar rest is inside)
          (port_now net hs start b k next outs now now q out out start_block port sofar rest is inside)
          gives_here (all.room q used) (let list = all.list q used in omega arith)

      pub given_more : (after : List (List BufferState)) → map (map buffer_of) after ≡ with_buffer (map (map buffer_of) now) b q (λ buffer. delivered_to buffer (numbers_of out) (tags_brought net (stored_with hs now) b q k next)) →
          map (map buffer_of) after ≡ given_up_to net hs start b k next outs (q + 1)
      given_more after =
          more_given net hs start b k next outs now after q out out start_block port sofar rest is inside (tags_brought net (stored_with hs now) b q k next)
          (brought_stays net can hs start now b (λ a p ne. rest a p (λ e _. ne e)) q k next)

      pub rest_more : (after : List (List BufferState)) → OthersStay b q now after → RestStays net hs start b k next outs (q + 1) after
      rest_more after = more_rest net hs start b k next outs now after q out out start_block port sofar rest is inside

    pub given_all : length outs ≤ q → q ≤ length outs → map (map buffer_of) now ≡ delivered_buffers net (stored_with hs start) b k next (map numbers_of outs)
    given_all over under =
        let there : b < length (map (map buffer_of) start) = (let in' = start_block in let same = length-map start (map buffer_of) in omega arith) in
        let long : length (buffers_in (map (map buffer_of) start) b) ≤ q =
        (let one = ap length (lists.get_or-map (map buffer_of) start b []) in let two = length-map (get_or start b []) buffer_of in let three = all.ports in let four = outs_long in omega arith) in
        let whole : q ≡ used_outputs net b = (let same = outs_long in omega arith) in
        sofar ∙ all_done (map (map buffer_of) start) b there (given_at net hs start b k next outs) q long
        ∙ ap (λ n. set (map (map buffer_of) start) b (map (given_at net hs start b k next outs) (below n))) whole
