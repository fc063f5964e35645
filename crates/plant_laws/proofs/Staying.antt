-- What is stored of a block stays right while the block stays where it is, whatever is handed meanwhile behind what is claimed.
use Rattle.std.proofs.Common.{◌≡◌, ℕ, suc, ◌+◌, ◌*◌, ◌<◌, ◌≤◌, true, List, [], ◌∷◌, length, map, take, All, refl, arith, ap, sym, ◌∙◌, subst, inl, inr, get_or, eqb-true}
use Rattle.std.proofs.Math.Nat.{zero-add, mul-le-mul_left}
use Rattle.std.proofs.lemmas.Bool.{cases_lt, cases_Bool, and_parts}
use Rattle.std.proofs.lemmas.List.Elements.{All-filter, filter_passes}
use Rattle.std.specs.Prelude.{◌==◌, ◌&&◌}
use Rattle.std.proofs.lemmas.List.{length-map, get_or-map}
use Rattle.circular_buffer.specs.Buffer.{keep_last}
use Rattle.stream_model.specs.Tags.{Tag, sorted_tags, tags_within}
use Rattle.stream_model.specs.Meaning.{input}
use Rattle.stream_model.specs.Network.{Network, Connection, Handed, Node, State, node_at, handed_at, role_at, is_source, is_keeper, writers_of, writer_of, no_connection, readers_of, used_outputs, taken_by, given_by, items_of, entering, tags_of, tags_entering, chosen}
use Rattle.stream_model.specs.Machine.{Capacities, capacity_at, reader_counts, next}
use Rattle.stream_model.specs.Claims.{ReaderCounts, is_abandoned}
use Rattle.stream_model.proofs.Maps.{map-agree}
use Rattle.stream_model.proofs.Streams.{taken_by-rises, taken_by-zero, given_by-rises, elim-true, elim-false}
use Rattle.stream_laws.specs.CanRun.{CanRun, HasPorts}
use Rattle.stream_laws.specs.Past.{IsUndisturbed}
use Rattle.stream_laws.specs.Tags.{tags_in, tags_taken, brought}
use Rattle.stream_laws.proofs.InTime.{within-within}
use Rattle.stream_laws.proofs.Past.{take-fewer, tags-source}
use Rattle.stream_laws.proofs.Writers.{at_input, is_input, source_gives}
use Rattle.machine_laws.specs.Sound.{fired, reached, Sound}
use Rattle.machine_laws.proofs.Ports.{keeper_takes_each, keeper_takes_all}
use Rattle.machine_laws.proofs.Following.{what_is_shown_stays}
use Rattle.ring_readers.specs.State.{most_kept}
use Rattle.buffers.specs.Buffer.{wanted_tags}
use Rattle.plant_laws.specs.Stored.{OutputBuffer, Collected}
use Rattle.plant_laws.specs.Holds.{ShowsOutput, HasCollected, place_of, word_of, has_no_reader, tags_given}
use Rattle.plant_laws.specs.Calls.{StaysPut, StoredStays, OthersStay}

within-fewer : (n more : ℕ) (ts us : List Tag) → n ≤ more → tags_within 0 more ts ≡ tags_within 0 more us → tags_within 0 n ts ≡ tags_within 0 n us
within-fewer n more ts us le same = sym (within-within n more ts le) ∙ ap (tags_within 0 n) same ∙ within-within n more us le

-- tags that agree on the items that firings take are taken alike
pub tags_taken-alike : (n : Node) (q from to : ℕ) (ts us : List (List Tag)) → length ts ≡ length us →
    ((p : ℕ) → p < length ts → tags_within (taken_by n (q + p) from) (taken_by n (q + p) to) (get_or ts p []) ≡ tags_within (taken_by n (q + p) from) (taken_by n (q + p) to) (get_or us p [])) →
    tags_taken n q from to ts ≡ tags_taken n q from to us
tags_taken-alike n q from to [] [] ports same = refl
tags_taken-alike n q from to [] (u ∷ us) ports same = absurd (omega arith)
tags_taken-alike n q from to (t ∷ ts) [] ports same = absurd (omega arith)
tags_taken-alike n q from to (t ∷ ts) (u ∷ us) ports same =
    let at : q + 0 ≡ q = omega arith in
    let head : tags_within (taken_by n q from) (taken_by n q to) t ≡ tags_within (taken_by n q from) (taken_by n q to) u =
    subst (λ j. tags_within (taken_by n j from) (taken_by n j to) t ≡ tags_within (taken_by n j from) (taken_by n j to) u) at (same 0 (omega arith)) in
    let rest : length ts ≡ length us = omega arith in
    let tail = tags_taken-alike n (suc q) from to ts us rest (λ p in'. let e : q + suc p ≡ suc q + p = omega arith in let i : suc p < length (t ∷ ts) = omega arith in
    subst (λ j. tags_within (taken_by n j from) (taken_by n j to) (get_or ts p []) ≡ tags_within (taken_by n j from) (taken_by n j to) (get_or us p [])) e (same (suc p) i)) in
    cc

module _ (net : Network) (can : CanRun net) (caps : Capacities) (st : State) (sound : Sound net caps st) where
  -- what the firings of block b take was given
  pub input_given : (b q : ℕ) → b < length net.nodes → q < length (writers_of net b) → taken_by (node_at net b) q (reached st b) ≤ given_by (node_at net (writer_of net b q).from) (fired st (writer_of net b q).from)
  input_given b q in' used =
      at_input net can (λ b' q' c. b' < length net.nodes → taken_by (node_at net b') q' (reached st b') ≤ given_by (node_at net c.from) (fired st c.from))
      (λ k d lt in1. (sound.fits (get_or net.connections k d).to in1).items k d lt refl) b q used in'

module _ (net : Network) (can : CanRun net) (caps : Capacities) (st after : State) (sound : Sound net caps st) (stays : (c : ℕ) → c < length net.nodes → IsUndisturbed net (reached st) st.handed after.handed c) where
  pub word-stays : (b : ℕ) → b < length net.nodes → fired after b ≡ fired st b → word_of net after b ≡ word_of net st b
  word-stays b in' put =
      let n = node_at net b in
      ap (λ k. n.meaning.word (handed_at after.handed b).settings (entering net after.handed b) (n.multiple * k)) put ∙ same
    where
      count : ℕ
      count = (node_at net b).multiple * fired st b

      same : (node_at net b).meaning.word (handed_at after.handed b).settings (entering net after.handed b) count ≡ (node_at net b).meaning.word (handed_at st.handed b).settings (entering net st.handed b) count
      same =
          let m = (node_at net b).meaning in
          let starts = (can.sound b).lawful.starts in
          elim (cases_lt 0 count) [
            | inl some ↦
                (let n = node_at net b in
                let within : n.multiple * fired st b ≤ n.multiple * reached st b = mul-le-mul_left n.multiple (omega arith) in
                let alike = (stays b in').firings 0 count some (omega arith) in
                let whole : 0 + count ≡ count = zero-add count in
                sym (rw whole at alike.word))
            | inr none ↦ (let zero_count : count ≡ 0 = omega arith in
                rw zero_count (starts (handed_at after.handed b).settings (entering net after.handed b) ∙ sym (starts (handed_at st.handed b).settings (entering net st.handed b))))
          ]

  -- the tags on what firings take of input q
  pub input_tags-stay : (b q k : ℕ) → b < length net.nodes → q < length (writers_of net b) → k ≤ reached st b →
      let c = writer_of net b q in
      tags_within 0 (taken_by (node_at net b) q k) (tags_of net st.handed c.from c.out_port) ≡ tags_within 0 (taken_by (node_at net b) q k) (tags_of net after.handed c.from c.out_port)
  input_tags-stay b q k in' used le =
      let c = writer_of net b q in
      let is = is_input net can b q used in
      let writer = (stays c.from is.from).past.outputs c.out_port is.out_port in
      let taken = taken_by-rises (node_at net b) (can.sound b) q k (reached st b) le in
      let given = input_given net can caps st sound b q in' used in
      let more = given_by-rises (node_at net c.from) (can.sound c.from) (fired st c.from) (reached st c.from) (omega arith) in
      within-fewer (taken_by (node_at net b) q k) (given_by (node_at net c.from) (reached st c.from)) (tags_of net st.handed c.from c.out_port) (tags_of net after.handed c.from c.out_port) (omega arith) writer.tags

  -- the tags that firings brought
  worker_tags : (b p k : ℕ) → b < length net.nodes → k ≤ reached st b → brought (node_at net b) p 0 k (tags_in net st.handed b) ≡ brought (node_at net b) p 0 k (tags_in net after.handed b)
  worker_tags b p k in' le =
      let n = node_at net b in
      let long : (hs : List Handed) → length (tags_in net hs b) ≡ length (writers_of net b) = λ hs. length-map (writers_of net b) (λ (c : Connection). tags_of net hs c.from c.out_port) in
      let at : (hs : List Handed) (q : ℕ) → q < length (writers_of net b) → get_or (tags_in net hs b) q [] ≡ tags_of net hs (writer_of net b q).from (writer_of net b q).out_port =
      λ hs q used. get_or-map (λ (c : Connection). tags_of net hs c.from c.out_port) (writers_of net b) q no_connection [] used in
      ap (λ ts. chosen n.policy n p 0 ts)
      (tags_taken-alike n 0 0 k (tags_in net st.handed b) (tags_in net after.handed b) (long st.handed ∙ sym (long after.handed))
      (λ q low.
      let used : q < length (writers_of net b) = (let l = long st.handed in omega arith) in
      let port : 0 + q ≡ q = zero-add q in
      let none = taken_by-zero n (can.sound b) q in
      rw (port, none, at st.handed q used, at after.handed q used) (input_tags-stay b q k in' used le)))

  pub source_tags : (b p k : ℕ) → b < length net.nodes → is_source (role_at net b) ≡ true → p < (node_at net b).meaning.outputs.most → k ≤ reached st b →
      tags_within 0 k (sorted_tags (handed_at st.handed b).tags) ≡ tags_within 0 k (sorted_tags (handed_at after.handed b).tags)
  source_tags b p k in' e port le =
      let past = (stays b in').past.outputs p port in
      let given = source_gives net can b (reached st b) e in
      within-fewer k (reached st b) (sorted_tags (handed_at st.handed b).tags) (sorted_tags (handed_at after.handed b).tags) le
      (rw (given, tags-source net can st.handed b p in' e, tags-source net can after.handed b p in' e) at past.tags)

  pub tags_given-stay : (b p k : ℕ) → b < length net.nodes → p < (node_at net b).meaning.outputs.most → k ≤ reached st b → tags_given net after.handed b p k ≡ tags_given net st.handed b p k
  tags_given-stay b p k in' port le =
      let a : List Handed → List Tag = λ hs. tags_within 0 k (sorted_tags (handed_at hs b).tags) in
      let c : List Handed → List Tag = λ hs. sorted_tags (brought (node_at net b) p 0 k (tags_in net hs b)) in
      elim (cases_Bool (is_source (role_at net b))) [
        | inl e ↦ elim-true (is_source (role_at net b)) (a after.handed) (c after.handed) e ∙ sym (source_tags b p k in' e port le) ∙ sym (elim-true (is_source (role_at net b)) (a st.handed) (c st.handed) e)
        | inr e ↦ elim-false (is_source (role_at net b)) (a after.handed) (c after.handed) e ∙ ap sorted_tags (sym (worker_tags b p k in' le)) ∙ sym (elim-false (is_source (role_at net b)) (a st.handed) (c st.handed) e)
      ]

  pub sink-stays : (b : ℕ) → b < length net.nodes → is_keeper (role_at net b) ≡ true → fired after b ≡ fired st b → (sink : Collected) → HasCollected net st b sink → HasCollected net after b sink
  sink-stays b in' keeper put sink has =
      let n = node_at net b in
      let each = keeper_takes_each net can b keeper in
      let reach = each (reached st b) in
      let items = (stays b in').past.inputs.items 0 in
      let le : fired st b ≤ reached st b = omega arith in
      record {
        type = has.type;
        items = has.items
            ∙ take-fewer (fired st b) (reached st b) (input (entering net st.handed b) 0) (input (entering net after.handed b) 0) le (rw reach at items)
            ∙ sym (ap (λ k. take k (input (entering net after.handed b) 0)) put);
        tags = has.tags ∙ (rw (each (fired st b)) at (input_tags-stay b 0 (fired st b) in' (keeper_input) le))
            ∙ sym (ap (λ k. tags_within 0 k (tags_entering net after.handed b 0)) put);
        kept = subst (λ (n : ℕ). sink.from ≤ n) (sym put) has.kept;
      }
    where
      keeper_input : 0 < length (writers_of net b)
      keeper_input = can.fed b in' (keeper_takes_all (role_at net b) keeper)

  pub items-stay : (b p : ℕ) → b < length net.nodes → p < (node_at net b).meaning.outputs.most →
      take (given_by (node_at net b) (fired st b)) (items_of net after.handed b p) ≡ take (given_by (node_at net b) (fired st b)) (items_of net st.handed b p)
  items-stay b p in' port =
      let past = (stays b in').past.outputs p port in
      sym (take-fewer (given_by (node_at net b) (fired st b)) (given_by (node_at net b) (reached st b)) (items_of net st.handed b p) (items_of net after.handed b p)
      (given_by-rises (node_at net b) (can.sound b) (fired st b) (reached st b) (omega arith)) past.items)

  -- a buffer that shows what was given shows it still
  pub shown-stays : (b p : ℕ) → b < length net.nodes → p < (node_at net b).meaning.outputs.most → fired after b ≡ fired st b → (buffer : OutputBuffer) → ShowsOutput net st b p buffer → ShowsOutput net after b p buffer
  shown-stays b p in' port put buffer shows =
      let most = most_kept buffer.ring.capacity buffer.ring.greatest in
      record {
        written = shows.written ∙ sym (ap (given_by (node_at net b)) put);
        items = shows.items ∙ ap (keep_last most) (sym (items-stay b p in' port)) ∙ sym (ap (λ k. keep_last most (take (given_by (node_at net b) k) (items_of net after.handed b p))) put);
        tags = shows.tags ∙ ap (wanted_tags buffer.ring) (sym (tags_given-stay b p (fired st b) in' port (omega arith))) ∙ sym (ap (λ k. wanted_tags buffer.ring (tags_given net after.handed b p k)) put);
      }

-- readers that stay where they are
module _ (net : Network) (caps : Capacities) (st after : State) (b p : ℕ) (puts : All (λ c. StaysPut st after c.to) (readers_of net b p)) where
  pub readers-stay : map (place_of net after) (readers_of net b p) ≡ map (place_of net st) (readers_of net b p)
  readers-stay =
      map-agree (λ c. StaysPut st after c.to) (place_of net after) (place_of net st) (readers_of net b p) puts
      (λ c put. rw (put.firings, put.done) refl)

  pub has_no_reader-stays : has_no_reader net caps after b p ≡ has_no_reader net caps st b p
  has_no_reader-stays =
      ap (λ (rs : List ReaderCounts). is_abandoned (record { capacity = capacity_at caps b p; readers = rs }))
      (map-agree (λ c. StaysPut st after c.to) (reader_counts net after) (reader_counts net st) (readers_of net b p) puts
      (λ c put. rw (put.firings, put.done) refl))

-- a fact of all connections is one of the readers of an output
pub readers_all : (net : Network) (P : Connection → Type 0) (b p : ℕ) → All P net.connections → All (λ c. (c.from ≡ b) × (c.out_port ≡ p) × P c) (readers_of net b p)
readers_all net P b p all = λ k d lt.
    let parts = and_parts _ _ (filter_passes (λ (c : Connection). c.from == b && c.out_port == p) net.connections k d lt) in
    (eqb-true _ b parts.0, eqb-true _ p parts.1, All-filter (λ (c : Connection). c.from == b && c.out_port == p) P net.connections all k d lt)

-- the ports in use are among those that there are
pub port_fits : (net : Network) → CanRun net → (b p : ℕ) → p < used_outputs net b → p < (node_at net b).meaning.outputs.most
port_fits net can b p used =
    let reader = readers_all net (HasPorts net) b p can.ports 0 no_connection (can.read b p used) in
    subst (λ b'. p < (node_at net b').meaning.outputs.most) reader.0 (subst (λ p'. p' < (node_at net (get_or (readers_of net b p) 0 no_connection).from).meaning.outputs.most) reader.1 reader.2.output)

module _ (net : Network) (can : CanRun net) (caps : Capacities) (st after : State) (sound : Sound net caps st) (stays : (c : ℕ) → c < length net.nodes → IsUndisturbed net (reached st) st.handed after.handed c) where
  pub stored-stays : (b : ℕ) → b < length net.nodes → StaysPut st after b → StoredStays net caps st after b
  stored-stays b in' put =
      record {
        word = word-stays net can caps st after sound stays b in' put.firings;
        sink = λ sink keeper has. sink-stays net can caps st after sound stays b in' keeper put.firings sink has;
        buffer = λ p buffer used puts is. record {
          type = is.type;
          capacity = is.capacity;
          greatest = is.greatest;
          readers = is.readers ∙ sym (readers-stay net caps st after b p puts);
          shows = λ read. shown-stays net can caps st after sound stays b p in' (port_fits net can b p used) put.firings buffer (is.shows (sym (has_no_reader-stays net caps st after b p puts) ∙ read));
        };
      }

pub others_stay : OthersStay
others_stay net caps st can sound call b in' put =
    stored-stays net can caps st (next net caps st call).1 sound (λ c in1. (what_is_shown_stays net caps st can sound call c in1).firings) b in' put
