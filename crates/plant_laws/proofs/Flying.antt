-- The tags of a claim in flight stay.
use Rattle.std.proofs.Common.{◌≡◌, ℕ, ◌+◌, ◌<◌, List, [], length, get_or, arith, ap, sym, ◌∙◌, subst, inl, inr}
use Rattle.std.proofs.Math.Nat.{zero-add}
use Rattle.std.proofs.lemmas.Bool.{cases_Bool}
use Rattle.std.proofs.lemmas.List.{length-map, get_or-map}
use Rattle.stream_model.specs.Tags.{Tag, sorted_tags, tags_within}
use Rattle.stream_model.specs.Network.{Network, Connection, State, no_connection, node_at, handed_at, progress_at, role_at, is_source, writers_of, writer_of, used_outputs, taken_by, tags_of, chosen}
use Rattle.stream_model.specs.Machine.{Capacities, next}
use Rattle.stream_model.proofs.Streams.{elim-false}
use Rattle.stream_laws.specs.CanRun.{CanRun}
use Rattle.stream_laws.specs.Past.{IsUndisturbed}
use Rattle.stream_laws.specs.Tags.{brought}
use Rattle.machine_laws.specs.Sound.{fired, reached, Sound}
use Rattle.machine_laws.proofs.Following.{what_is_shown_stays}
use Rattle.machine_laws.proofs.Sounds.{calls_keep_sound}
use Rattle.plant_laws.specs.Stored.{Stored, tape_at, buffer_at}
use Rattle.plant_laws.specs.Holds.{Holds}
use Rattle.plant_laws.specs.Changes.{tags_waiting, tags_brought}
use Rattle.plant_laws.specs.Claims.{MayFire, input_buffer}
use Rattle.plant_laws.specs.Flights.{BringsTheSame, FlightsKeepTags}
use Rattle.plant_laws.proofs.Inserting.{within-part}
use Rattle.plant_laws.proofs.Staying.{tags_taken-alike, input_tags-stay, source_tags, port_fits}
use Rattle.plant_laws.proofs.Serving.{seen_tags, brought_source, flights_may_fire}

-- tags that agree on the first items agree on a stretch of them
within-stretch : (from to : ℕ) (ts us : List Tag) → tags_within 0 to ts ≡ tags_within 0 to us → tags_within from to ts ≡ tags_within from to us
within-stretch from to ts us same =
    sym (within-part 0 to from to ts (omega arith) (omega arith)) ∙ ap (tags_within from to) same ∙ within-part 0 to from to us (omega arith) (omega arith)

module _ (net : Network) (can : CanRun net) (caps : Capacities) (st after : State) (sound : Sound net caps st) (later : Sound net caps after)
    (stays : (c : ℕ) → c < length net.nodes → IsUndisturbed net (reached st) st.handed after.handed c)
    (old : Stored) (holds : Holds net caps st old) (new : Stored) (holds' : Holds net caps after new) (b : ℕ) (in' : b < length net.nodes)
    (some : 0 < (progress_at st.progress b).claimed) (firings : fired after b ≡ fired st b) (claims : (progress_at after.progress b).claimed ≡ (progress_at st.progress b).claimed) where
  abbrev count : ℕ
  count = (progress_at st.progress b).claimed

  may : MayFire net caps st b (count)
  may = flights_may_fire net caps st can sound b in' some

  may_later : MayFire net caps after b (count)
  may_later = subst (MayFire net caps after b) claims (flights_may_fire net caps after can later b in' (omega arith))

  taken_same : (q : ℕ) → q < length (writers_of net b) →
      let from = taken_by (node_at net b) q (fired st b) in
      let to = taken_by (node_at net b) q (reached st b) in
      tags_within from to (input_buffer net new b q).tags ≡ tags_within from to (input_buffer net old b q).tags
  taken_same q used =
      let n = node_at net b in
      let c = writer_of net b q in
      let from = taken_by n q (fired st b) in
      let to = taken_by n q (reached st b) in
      let now : tags_within from to (input_buffer net new b q).tags ≡ tags_within from to (tags_of net after.handed c.from c.out_port) =
      subst (λ k. tags_within (taken_by n q k) (taken_by n q (k + (count))) (input_buffer net new b q).tags ≡ tags_within (taken_by n q k) (taken_by n q (k + (count))) (tags_of net after.handed c.from c.out_port)) firings
      (seen_tags net can caps after later new holds' b (count) may_later q used) in
      now
      ∙ sym (within-stretch from to (tags_of net st.handed c.from c.out_port) (tags_of net after.handed c.from c.out_port) (input_tags-stay net can caps st after sound stays b q (reached st b) in' used (omega arith)))
      ∙ sym (seen_tags net can caps st sound old holds b (count) may q used)

  brought_same : (p : ℕ) → p < used_outputs net b → tags_brought net new b p (fired st b) (reached st b) ≡ tags_brought net old b p (fired st b) (reached st b)
  brought_same p used =
      let n = node_at net b in
      let k = fired st b in
      let to = reached st b in
      elim (cases_Bool (is_source (role_at net b))) [
        | inl e ↦
            subst (λ j. tags_brought net new b p j (j + (count)) ≡ tags_within j (j + (count)) (sorted_tags (handed_at after.handed b).tags)) firings
            (brought_source net can caps after later new holds' b (count) may_later e p)
            ∙ sym (within-stretch k to (sorted_tags (handed_at st.handed b).tags) (sorted_tags (handed_at after.handed b).tags)
            (source_tags net can caps st after sound stays b p to in' e (port_fits net can b p used) (omega arith)))
            ∙ sym (brought_source net can caps st sound old holds b (count) may e p)
        | inr e ↦ (
            let long : (stored : Stored) → length (tags_waiting net stored b) ≡ length (writers_of net b) = λ stored. length-map (writers_of net b) (λ (c : Connection). (buffer_at stored c.from c.out_port).tags) in
            let at : (stored : Stored) (q : ℕ) → q < length (writers_of net b) → get_or (tags_waiting net stored b) q [] ≡ (input_buffer net stored b q).tags =
            λ stored q lt. get_or-map (λ (c : Connection). (buffer_at stored c.from c.out_port).tags) (writers_of net b) q no_connection [] lt in
            elim-false (is_source (role_at net b)) (tags_within k to (tape_at new b).tags) (brought n p k to (tags_waiting net new b)) e
            ∙ ap (chosen n.policy n p 0) (tags_taken-alike n 0 k to (tags_waiting net new b) (tags_waiting net old b) (long new ∙ sym (long old))
            (λ q low.
            let lt : q < length (writers_of net b) = (let l = long new in omega arith) in
            rw (zero-add q, at new q lt, at old q lt) (taken_same q lt)))
            ∙ sym (elim-false (is_source (role_at net b)) (tags_within k to (tape_at old b).tags) (brought n p k to (tags_waiting net old b)) e))
      ]

  pub brings_the_same : BringsTheSame net old new b (fired st b) (reached st b)
  brings_the_same = record { taken = taken_same; brought = brought_same }

pub flights_keep_tags : FlightsKeepTags
flights_keep_tags net caps st stored can sound holds call after b in' some firings claims holds' =
    brings_the_same net can caps st (next net caps st call).1 sound (calls_keep_sound net caps st can sound call) (λ c in1. (what_is_shown_stays net caps st can sound call c in1).firings)
    stored holds after holds' b in' some firings claims
