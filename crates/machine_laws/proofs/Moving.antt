-- Claims, commits and abandons keep a state sound.
use Rattle.std.proofs.Common.{◌≡◌, ℕ, ◌+◌, ◌<◌, ◌≤◌, Bool, true, false, not, List, [], length, Option, Some, None, refl, arith, ap, sym, ◌∙◌, subst, inl, inr, get_or, add-zero, mul-zero, zero-le, MatchOption}
use Rattle.std.specs.Prelude.{◌⊎◌}
use Rattle.std.specs.Bool.{⊤}
use Rattle.std.specs.List.{All}
use Rattle.std.proofs.Math.ListN.{get_or-map}
use Rattle.std.proofs.lemmas.List.{length-map, get_or-map as get_or-map_inside}
use Rattle.std.proofs.lemmas.List.Elements.{All-nil}
use Rattle.std.proofs.lemmas.Bool.{or_cases, le-leb}
use Rattle.stream_model.specs.declared.vocabulary.Wanted.{Wanted}
use Rattle.stream_model.specs.Settings.{Held}
use Rattle.stream_model.specs.Tags.{Tag}
use Rattle.stream_model.proofs.Counts.{given-zero}
use Rattle.stream_model.proofs.Rising.{rising_nil}
use Rattle.stream_model.proofs.Streams.{taken_by-rises, given_by-rises, taken_by-zero, limit-falls}
use Rattle.stream_model.specs.Meaning.{IsWanted}
use Rattle.stream_model.specs.Network.{Network, Handed, Node, Progress, State, node_at, handed_at, progress_at, role_at, is_source, writers_of, writer_of, no_connection, no_node, no_progress, entering, taken_by, given_by, within_limit, opening_within, nothing_handed, nothing_within}
use Rattle.stream_model.specs.Claims.{InputCounts, Decision, IsDone, IsBusy, Ends, Fires, LacksItems, LacksRoom, is_finished, lacks_for_good, decide}
use Rattle.stream_model.specs.Machine.{Capacities, counts_in, counts_of, claimed_by, claim_of, ended, with_progress}
use Rattle.stream_laws.specs.CanRun.{CanRun}
use Rattle.stream_laws.proofs.Writers.{entering-source, entering-input, length-entering}
use Rattle.stream_laws.proofs.Later.{items-length}
use Rattle.machine_laws.specs.Sound.{fired, reached, MayBecome, AreAll, IsUnread, Fits, IsHandedWell, Sound, begun, BegunIsSound, OpeningIsSound}
use Rattle.machine_laws.proofs.Deciding.{IsFree, Reason, decide-reason}
use Rattle.machine_laws.proofs.Inputs.{input_at, Lacks, lacks-one}
use Rattle.machine_laws.proofs.Frames.{sound-moved}
use Rattle.machine_laws.proofs.Lengths.{StopsAt, fires_is, inputs_hold, some_enter}
use Rattle.machine_laws.proofs.Looking.{inputs_source, inputs_count, input_is_writer, unread_is, claim_fits}
use Rattle.machine_laws.proofs.Ports.{writers_all}

module _ (net : Network) (can : CanRun net) (caps : Capacities) (st : State) (sound : Sound net caps st) (b : ℕ) (in' : b < length net.nodes) where
  -- nothing more than what is written ever comes to an ended input of a live block
  module _ (live : (progress_at st.progress b).done ≡ false) where
    reader-lives : (w : ℕ) → AreAll net st.handed w (fired st w) ⊎ IsUnread net st w → (p : ℕ) → p < length (writers_of net b) → (writer_of net b p).from ≡ w → AreAll net st.handed w (fired st w)
    reader-lives w (inl all) p used from = all
    reader-lives w (inr unread) p used from =
        let own = writers_all net can (λ c. c.from ≡ w → (progress_at st.progress c.to).done ≡ true) b unread.done p no_connection used in
        let done : (progress_at st.progress b).done ≡ true = ap (λ v. (progress_at st.progress v).done) (sym own.0) ∙ own.1 from in
        absurd (cc)

    short_at : (s : Bool) → is_source (role_at net b) ≡ s → Lacks (node_at net b) 0 (fired st b + 1) (counts_in net st b) → (hs' : List Handed) → MayBecome st.handed hs' → StopsAt (node_at net b) (entering net hs' b) (fired st b + 1)
    short_at true e lacks hs' may =
        let one = inputs_source net st b e in
        let first : lacks.port ≡ 0 = (let u = lacks.used in let l = ap length one in omega arith) in
        let is0 : input_at (counts_in net st b) lacks.port ≡ input_at (counts_in net st b) 0 = ap (input_at (counts_in net st b)) first in
        let tape = ap (λ is. input_at is 0) one in
        let closed : (handed_at st.handed b).closed ≡ true = sym (ap (λ (i : InputCounts). i.ended) (is0 ∙ tape)) ∙ lacks.ended in
        let written = ap (λ (i : InputCounts). i.written) (is0 ∙ tape) in
        let same = ap length (may.ended b closed) in
        let port = ap (λ p. taken_by (node_at net b) p (fired st b + 1)) (ap (λ p. 0 + p) first) in
        let short = lacks.short in
        inr (0, rw (entering-source net hs' b e) (omega arith), rw (entering-source net hs' b e) (omega arith))
    short_at false e lacks hs' may =
        let used : lacks.port < length (writers_of net b) = (let u = lacks.used in let l = inputs_count net st b e in omega arith) in
        let writer = (writer_of net b lacks.port).from in
        let is = input_is_writer net st b e lacks.port used in
        let done : (progress_at st.progress (writer_of net b lacks.port).from).done ≡ true = sym (ap (λ (i : InputCounts). i.ended) is) ∙ lacks.ended in
        let written = ap (λ (i : InputCounts). i.written) is in
        let inside = (writers_all net can (λ c. (c.from < length net.nodes) × (c.to < length net.nodes) × (can.level c.from < can.level c.to)) b can.levels.rises lacks.port no_connection used).1.0 in
        let all = reader-lives writer (sound.complete writer inside done) lacks.port used refl hs' may in
        let long = items-length net can hs' writer (writer_of net b lacks.port).out_port inside in
        let given = ap (given_by (node_at net writer)) all in
        let port : taken_by (node_at net b) (0 + lacks.port) (fired st b + 1) ≡ taken_by (node_at net b) lacks.port (fired st b + 1) = ap (λ p. taken_by (node_at net b) p (fired st b + 1)) (omega arith) in
        let short = lacks.short in
        inr (lacks.port, rw (length-entering net hs' b e) used, rw (entering-input net hs' b lacks.port e used) (omega arith))

    -- a block ends only when it has fired as often as it ever can
    ends_all : Fits net caps st b (fired st b) → is_finished (node_at net b) (counts_of net caps st b) ≡ true → AreAll net st.handed b (fired st b)
    ends_all fits finished =
        λ hs' may.
        fires_is (node_at net b) (can.sound b) (entering net hs' b) (fired st b) (some_enter net can caps st sound hs' may b in')
        (inputs_hold net can caps st sound hs' may b (fired st b) fits) fits.limit
        (elim (or_cases (not (within_limit (node_at net b).meaning.limit (fired st b + 1))) (lacks_for_good (node_at net b) (fired st b + 1) 0 (counts_in net st b)) finished) [
          | inl limit ↦ inl (not_true (within_limit (node_at net b).meaning.limit (fired st b + 1)) limit)
          | inr lacks ↦ short_at (is_source (role_at net b)) refl (lacks-one (node_at net b) 0 (fired st b + 1) (counts_in net st b) lacks) hs' may
        ])
      where
        not_true : (t : Bool) → not t ≡ true → t ≡ false
        not_true true e = cc
        not_true false e = refl

  -- what is in flight keeps the block from being done
  in_flight-live : 0 < (progress_at st.progress b).claimed → (progress_at st.progress b).done ≡ true → ⊥
  in_flight-live some done = let none = sound.rests b done in omega arith

  idle_fits : (progress_at st.progress b).claimed ≡ 0 → Fits net caps st b (fired st b)
  idle_fits idle = subst (Fits net caps st b) (omega arith) (sound.fits b in')

  free_live : (c : IsFree (counts_of net caps st b)) → (progress_at st.progress b).done ≡ true → ⊥
  free_live free done = let live = free.live in cc

  end-keeps : IsFree (counts_of net caps st b) → AreAll net st.handed b (fired st b) ⊎ IsUnread net st b → Sound net caps (ended st b)
  end-keeps free complete =
      let idle : (progress_at st.progress b).claimed ≡ 0 = free.idle in
      sound-moved net can caps st sound b in' (record (progress_at st.progress b) { done = true })
      (record { rises = omega arith; stays = λ d. refl; fits = sound.fits b in'; rests = λ d. idle; complete = λ d. complete })

  claim_at : (max : ℕ) (d : Decision) → Reason (node_at net b) (counts_of net caps st b) max d → Sound net caps (claimed_by net st b d).1
  claim_at max IsDone why = sound
  claim_at max IsBusy why = sound
  claim_at max (LacksItems p) why = sound
  claim_at max (LacksRoom p) why = sound
  claim_at max Ends why =
      end-keeps why.0
      (elim why.1 [
        | inl unread ↦ inr (unread_is net st b caps unread)
        | inr finished ↦ inl (ends_all why.0.live (idle_fits why.0.idle) finished)
      ])
  claim_at max (Fires count) why =
      sound-moved net can caps st sound b in' (record (progress_at st.progress b) { claimed = count })
      (record {
        rises = omega arith;
        stays = λ d. d;
        fits = claim_fits net can caps st b count why.1;
        rests = λ d. absurd (free_live why.0 d);
        complete = λ d. absurd (free_live why.0 d);
      })

  pub claim-keeps : (max : ℕ) → Sound net caps (claim_of net caps st b max).1
  unfolding claim_of
  claim-keeps max = claim_at max (decide (node_at net b) (counts_of net caps st b) max) (decide-reason (node_at net b) (counts_of net caps st b) max)

  pub committed : 0 < (progress_at st.progress b).claimed → Sound net caps (with_progress st b (record (progress_at st.progress b) { firings = fired st b + (progress_at st.progress b).claimed; claimed = 0 }))
  committed some =
      sound-moved net can caps st sound b in' (record (progress_at st.progress b) { firings = fired st b + (progress_at st.progress b).claimed; claimed = 0 })
      (record {
        rises = omega arith;
        stays = λ d. d;
        fits = subst (Fits net caps st b) (omega arith) (sound.fits b in');
        rests = λ d. refl;
        complete = λ d. absurd (in_flight-live some d);
      })

  -- fewer firings fit where more do
  pub fits-fewer : (j k : ℕ) → j ≤ k → Fits net caps st b k → Fits net caps st b j
  fits-fewer j k le fits =
      record {
        tape = λ source. (let there = fits.tape source in omega arith);
        items = λ i d lt to. (let held = fits.items i d lt to in let less = taken_by-rises (node_at net b) (can.sound b) (get_or net.connections i d).in_port j k le in omega arith);
        room = λ i d lt from live. (let held = fits.room i d lt from live in let less = given_by-rises (node_at net b) (can.sound b) j k le in omega arith);
        limit = limit-falls (node_at net b) (can.sound b) (node_at net b).meaning.limit j k le fits.limit;
      }

  pub abandoned : 0 < (progress_at st.progress b).claimed → Sound net caps (with_progress st b (record (progress_at st.progress b) { claimed = 0 }))
  abandoned some =
      sound-moved net can caps st sound b in' (record (progress_at st.progress b) { claimed = 0 })
      (record {
        rises = omega arith;
        stays = λ d. d;
        fits = fits-fewer (fired st b + 0) (reached st b) (omega arith) (sound.fits b in');
        rests = λ d. refl;
        complete = λ d. absurd (in_flight-live some d);
      })

-- a run begins soundly, whatever blocks were handed
pub begun_sound : BegunIsSound
begun_sound net caps hs can count well =
    record {
      handed_count = count;
      progress_count = length-map net.nodes (λ n. no_progress);
      fits = λ b in1. subst (λ (s : Progress). Fits net caps (begun net hs) b (s.firings + s.claimed)) (sym (no_progress-at b)) (first_fits b);
      rests = λ b d. ap (λ (s : Progress). s.claimed) (no_progress-at b);
      complete = λ b in1 d. absurd (let live = ap (λ (s : Progress). s.done) (no_progress-at b) in cc);
      handed = well;
    }
  where
    no_progress-at : (b : ℕ) → progress_at (begun net hs).progress b ≡ no_progress
    no_progress-at b = get_or-map (λ (n : Node). no_progress) net.nodes b no_node

    first_within : (limit : Option ℕ) → within_limit limit (0 + 0) ≡ true
    first_within None = refl
    first_within (Some n) = le-leb (0 + 0) n (omega arith)

    first_fits : (b : ℕ) → Fits net caps (begun net hs) b (0 + 0)
    first_fits b =
        record {
          tape = λ e. omega arith;
          items = λ i d lt to. (let none = taken_by-zero (node_at net b) (can.sound b) (get_or net.connections i d).in_port in rw add-zero (omega arith));
          room = λ i d lt from live. (let none = given_by-zero b in rw add-zero (omega arith));
          limit = first_within (node_at net b).meaning.limit;
        }
      where
        given_by-zero : (b : ℕ) → given_by (node_at net b) 0 ≡ 0
        given_by-zero b = rw (given_by, mul-zero) (given-zero (node_at net b).meaning (can.sound b).lawful)

-- no settings are settings that any block can have
pub no_settings : (o : Option Wanted) → MatchOption o ⊤ (λ w. All (λ (h : Held). IsWanted w h.value) [])
no_settings None = tt
no_settings (Some w) = All-nil (λ (h : Held). IsWanted w h.value)

-- and so with nothing handed
pub opening_sound : OpeningIsSound
opening_sound net caps longest can =
    begun_sound net caps (opening_within longest net).handed can (length-map net.nodes (λ n. nothing_within longest))
    (λ b in1. subst (IsHandedWell (node_at net b)) (sym (nothing-at b in1))
    (record { tape = λ e. refl; short = zero-le; tags = All-nil (λ (t : Tag). t.offset < 0); settings = no_settings (node_at net b).meaning.setting; rising = rising_nil; unset = λ none. refl }))
  where
    nothing-at : (b : ℕ) → b < length net.nodes → handed_at (opening_within longest net).handed b ≡ nothing_within longest
    nothing-at b in1 = get_or-map_inside (λ (n : Node). nothing_within longest) net.nodes b no_node nothing_handed in1
