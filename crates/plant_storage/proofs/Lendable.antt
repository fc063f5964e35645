-- What firings that fit take is there, and their counts fit a word.
use Rattle.std.proofs.Common.{◌≡◌, ℕ, ◌+◌, ◌*◌, ◌/◌, ◌^◌, ◌<◌, ◌≤◌, true, Option, Some, None, List, length, arith, ap, sym, ◌∙◌, subst, get_or-set_same, mul-le-mul_right}
use Rattle.std.proofs.Math.Nat.{div-lt_iff_lt-mul}
use Rattle.stream_model.specs.declared.vocabulary.Role.{Role}
use Rattle.stream_model.specs.declared.vocabulary.Role.TheVariants.{Source, Work, Keep, Discard}
use Rattle.stream_model.specs.declared.vocabulary.Shift.{Shift}
use Rattle.stream_model.specs.declared.vocabulary.Shift.TheVariants.{No, Skip, Delay}
use Rattle.stream_model.specs.Meaning.{Meaning, KeepsRole, IsShifted, HasCounts}
use Rattle.stream_model.specs.Network.{Network, Progress, State, no_progress, node_at, progress_at, role_at, is_source, writers_of, writer_of, taken_by, given_by}
use Rattle.stream_model.specs.Numbers.{types_agree}
use Rattle.stream_model.specs.Machine.{Capacities, with_progress}
use Rattle.stream_model.proofs.Streams.{taken_by-rises}
use Rattle.stream_model.proofs.Types.{types_agree-same}
use Rattle.graph_model.specs.Graphs.{IsValidGraph}
use Rattle.stream_laws.specs.CanRun.{CanRun}
use Rattle.stream_laws.proofs.Writers.{is_input, at_input}
use Rattle.machine_laws.specs.Sound.{fired, reached, Sound}
use Rattle.machine_laws.specs.Bounds.{IsSmall}
use Rattle.graph_model.specs.Gains.{AreWithinGain}
use Rattle.machine_laws.proofs.Bounding.{counts_are_small}
use Rattle.machine_laws.proofs.Frames.{sound-moved}
use Rattle.ring_readers.specs.declared.reader.ReaderState.{ReaderState}
use Rattle.plant_laws.specs.Stored.{Stored}
use Rattle.plant_laws.specs.Holds.{Holds}
use Rattle.plant_laws.specs.Claims.{MayFire}
use Rattle.plant_laws.proofs.Readers.{output_used}
use Rattle.plant_laws.proofs.Serving.{place_here, serves_input}
use Rattle.plant_storage.specs.Lending.{HasInput, HasTapeItems, FitsWords, CanLend}

-- a source's items have one type
pub source_type : (m : Meaning) (r : Role) → is_source r ≡ true → KeepsRole m r → m.inputs.item ≡ m.outputs.item
source_type m Source e role = role.type
source_type m Work e role = cc
source_type m Keep e role = cc
source_type m Discard e role = cc

-- a tag on an item that k firings take is moved behind what they give by less than a delay
module _ (m : Meaning) (p k offset : ℕ) (on : offset < m.taken p k) (takes : m.taken p k < 2 ^ 62) (gives : m.given k < 2 ^ 62) where
  place_shifted : (s : Shift) → IsShifted m p s → m.place p offset < 2 ^ 63
  place_shifted No h = absurd h
  place_shifted (Skip n) h = let place = h.2 offset in omega arith
  place_shifted (Delay n) h = let few = h.0 in let place = h.3 offset in omega arith

  pub place_small : (r : Option (ℕ × ℕ)) → HasCounts m p r → m.place p offset < 2 ^ 63
  place_small None h = place_shifted m.shift h
  place_small (Some r) h =
      let taken = h.1.taken k in
      let below : offset < k * r.0 = omega arith in
      let firing : offset / r.0 < k = (div-lt_iff_lt-mul h.1.takes_some).1 below in
      let most : (offset / r.0 + 1) * r.1 ≤ k * r.1 = mul-le-mul_right r.1 (omega arith) in
      let given = h.1.given k in
      let far = h.1.not_far offset in
      omega arith

module _ (names : List (List ℕ)) (net : Network) (can : CanRun net) (valid : IsValidGraph names net) (caps : Capacities) (st : State) (sound : Sound net caps st) (gain : AreWithinGain net st.handed) where
  -- an input has the type of the output that it reads
  pub input_type : (b p : ℕ) → p < length (writers_of net b) → (node_at net (writer_of net b p).from).meaning.outputs.item ≡ (node_at net b).meaning.inputs.item
  input_type b p used =
      (types_agree-same (node_at net (writer_of net b p).from).meaning.outputs.item (node_at net b).meaning.inputs.item).0
      (at_input net can (λ b' q c. types_agree (node_at net c.from).meaning.outputs.item (node_at net b').meaning.inputs.item ≡ true) valid.graph.types b p used)

  module _ (b count : ℕ) (may : MayFire net caps st b count) where
    -- were these firings claimed, the state would be sound
    abbrev own : Progress
    own = record (progress_at st.progress b) { claimed = count }

    abbrev claiming : State
    claiming = with_progress st b (own)

    claiming_sound : Sound net caps (claiming)
    claiming_sound =
        let live = may.live in
        sound-moved net can caps st sound b may.inside (own)
        (record { rises = omega arith; stays = λ d. d; fits = may.fits; rests = λ d. absurd (cc); complete = λ d. absurd (cc) })

    reached_here : reached (claiming) b ≡ fired st b + count
    reached_here = ap (λ (p : Progress). p.firings + p.claimed) (get_or-set_same st.progress b (own) no_progress (rw sound.progress_count may.inside))

    small : IsSmall net (claiming) b
    small = counts_are_small names net caps (claiming) can valid gain (claiming_sound) b may.inside

    abbrev next : ℕ
    next = fired st b + count

    pub firings_small : (node_at net b).multiple * (next) < 2 ^ 62
    firings_small = subst (λ k. (node_at net b).multiple * k < 2 ^ 62) (reached_here) (small).firings

    pub takes_small : (p : ℕ) → p < length (writers_of net b) → taken_by (node_at net b) p (next) < 2 ^ 62
    takes_small p used = subst (λ k. taken_by (node_at net b) p k < 2 ^ 62) (reached_here) ((small).taken p used)

    pub gives_small : given_by (node_at net b) (next) < 2 ^ 62
    gives_small = subst (λ k. given_by (node_at net b) k < 2 ^ 62) (reached_here) (small).given

    pub fits_words : FitsWords net b (next)
    fits_words =
        let m = (node_at net b).meaning in
        record {
          firings = firings_small;
          takes = takes_small;
          gives = gives_small;
          places = λ p offset used on. place_small m p ((node_at net b).multiple * (next)) offset on (takes_small p used) gives_small (m.rate p) ((can.sound b).lawful.counts p);
        }

    module _ (stored : Stored) (holds : Holds net caps st stored) where
      has_tape : is_source (role_at net b) ≡ true → HasTapeItems net stored b (fired st b) (next)
      has_tape e =
          let tape = holds.tapes b may.inside e in
          let long = ap length tape.items in
          let there = may.fits.tape e in
          record { kept = holds.kept b may.inside e; long = omega arith; type = tape.type ∙ sym (source_type (node_at net b).meaning (role_at net b) e (can.sound b).lawful.role) }

      has_input : (p : ℕ) → p < length (writers_of net b) → HasInput net stored b p (fired st b) (next)
      has_input p used =
          let c = writer_of net b p in
          let is = is_input net can b p used in
          let serves = serves_input net can caps st sound stored holds b count may p used in
          record {
            live = serves.live;
            place = serves.place;
            history = ap (λ (q : ReaderState). q.history) (place_here net can caps st sound stored holds b count may p used) ∙ ap (λ k. (node_at net k).meaning.history) is.to;
            unread = serves.unread;
            rises = taken_by-rises (node_at net b) (can.sound b) p (fired st b) (next) (omega arith);
            type = (holds.buffers c.from c.out_port is.from (output_used net can b p used)).type ∙ input_type b p used;
          }

      pub can_lend : CanLend net stored b (fired st b) count
      can_lend = record { inside = may.inside; places = holds.places; tape = has_tape; settings = holds.unread b may.inside; inputs = has_input; words = fits_words }
