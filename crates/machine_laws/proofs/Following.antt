-- What is shown stays, whatever is called.
use Rattle.std.proofs.Common.{◌≡◌, ℕ, ◌+◌, ◌*◌, ◌<◌, ◌≤◌, Bool, true, not, List, ◌++◌, length, take, get_or, refl, arith, ap, sym, ◌∙◌, subst, inl, inr, get_or-set_same, get_or-set_other, ltb-true, mul-le-mul_right, ℤ}
use Rattle.std.specs.Prelude.{nat_lt, ◌⊎◌}
use Rattle.std.proofs.Math.Nat.{mul-add}
use Rattle.std.proofs.lemmas.Bool.{cases_eq, eq-eqb}
use Rattle.stream_model.specs.Settings.{Held}
use Rattle.stream_model.specs.Meaning.{Meaning, IsFed, windows_of, held_of, given_items}
use Rattle.stream_model.specs.Network.{Network, Progress, State, no_progress, node_at, handed_at, progress_at, role_at, is_source, is_keeper, used_outputs, entering, stream_from, given_by, taken_by, items_of}
use Rattle.stream_model.specs.Claims.{Decision, IsDone, IsBusy, Ends, Fires, LacksItems, LacksRoom, decide}
use Rattle.stream_model.specs.Machine.{Capacities, Call, Feed, Close, Set, Claim, Commit, Abandon, Read, Job, Reply, with_progress, counts_of, claimed_by, claim_of, is_in_flight, commit_of, abandon_of, read_of, next, job_of}
use Rattle.stream_model.proofs.Given.{given_items-more}
use Rattle.stream_model.proofs.Streams.{given_by-rises, elim-false, streams_unfold}
use Rattle.stream_laws.proofs.Past.{stream_from-take}
use Rattle.stream_laws.specs.CanRun.{CanRun}
use Rattle.stream_laws.specs.Past.{AreThere, HasLater, IsUndisturbed}
use Rattle.stream_laws.proofs.Later.{what_comes_later_disturbs_nothing}
use Rattle.machine_laws.specs.Sound.{fired, reached, Sound}
use Rattle.machine_laws.specs.Stays.{in_flight, gives_back, Stays, WhatIsShownStays, JobsAreFed, CommitsAddTheirWork}
use Rattle.machine_laws.proofs.Choices.{if_both}
use Rattle.machine_laws.proofs.Deciding.{IsFree, Reason, decide-reason}
use Rattle.machine_laws.proofs.Frames.{handed_same}
use Rattle.machine_laws.proofs.Lengths.{inputs_hold, reached_fires}
use Rattle.machine_laws.proofs.Sounds as sounds
use Rattle.machine_laws.proofs.Staying.{HandsLater, nothing, feeds, closes, sets_at}

module _ (net : Network) (can : CanRun net) (caps : Capacities) (st : State) (sound : Sound net caps st) where
  -- what a call hands comes later, firings are not lost, and a claim in flight stays until it is given back
  abbrev pub KeepsAt : Call → State → Type 0
  KeepsAt call after =
      (c : ℕ) → HasLater (taken_by (node_at net c) 0 (reached st c)) (handed_at st.handed c) (handed_at after.handed c)
      × (fired st c ≤ fired after c)
      × (0 < (progress_at st.progress c).claimed → (progress_at after.progress c ≡ progress_at st.progress c) ⊎ (gives_back c call ≡ true))

  abbrev pub Keeps : Call → Reply × State → Type 0
  Keeps call r = KeepsAt call r.1

  stays : (call : Call) → KeepsAt call st
  stays call c = ((nothing net caps st sound c).0, omega arith, λ _. inl refl)

  handing : (call : Call) (r : Reply × State) → HandsLater net caps st sound r → Keeps call r
  handing call r hands c = let count = ap (λ (p : Progress). p.firings) (hands c).1 in ((hands c).0, omega arith, λ _. inl (hands c).1)

  module _ (b : ℕ) (in' : b < length net.nodes) where
    moved : (call : Call) (s : Progress) → fired st b ≤ s.firings → (0 < (progress_at st.progress b).claimed → gives_back b call ≡ true) → KeepsAt call (with_progress st b s)
    moved call s rise back c =
        elim (cases_eq c b) [
          | inl e ↦ (let new = ap (progress_at (with_progress st b s).progress) e ∙ get_or-set_same st.progress b s no_progress (rw sound.progress_count in') in
              let count = ap (λ (p : Progress). p.firings) new in
              let old = ap (fired st) e in
              ((nothing net caps st sound c).0, omega arith, λ some. inr (subst (λ k. gives_back k call ≡ true) (sym e) (back (subst (λ k. 0 < (progress_at st.progress k).claimed) e some)))))
          | inr ne ↦ (let same = get_or-set_other st.progress b c s no_progress ne in
              let count = ap (λ (p : Progress). p.firings) same in
              ((nothing net caps st sound c).0, omega arith, λ some. inl same))
        ]

    free_idle : IsFree (counts_of net caps st b) → 0 < (progress_at st.progress b).claimed → ⊥
    free_idle free some = let idle : (progress_at st.progress b).claimed ≡ 0 = free.idle in omega arith

    claim_at : (max : ℕ) (d : Decision) → Reason (node_at net b) (counts_of net caps st b) max d → Keeps (Claim b max) (claimed_by net st b d)
    claim_at max IsDone why = stays (Claim b max)
    claim_at max IsBusy why = stays (Claim b max)
    claim_at max (LacksItems p) why = stays (Claim b max)
    claim_at max (LacksRoom p) why = stays (Claim b max)
    claim_at max Ends why = moved (Claim b max) (record (progress_at st.progress b) { done = true }) (omega arith) (λ some. absurd (free_idle why.0 some))
    claim_at max (Fires count) why = moved (Claim b max) (record (progress_at st.progress b) { claimed = count }) (omega arith) (λ some. absurd (free_idle why.0 some))

    claims : (max : ℕ) → Keeps (Claim b max) (claim_of net caps st b max)
    unfolding claim_of
    claims max = claim_at max (decide (node_at net b) (counts_of net caps st b) max) (decide-reason (node_at net b) (counts_of net caps st b) max)

  commits : (own : Bool) (job : Job) → Keeps (Commit own job) (commit_of net st own job)
  unfolding commit_of
  commits own job =
      let s = progress_at st.progress job.block in
      if_both (is_in_flight net st own job) _ _ (Keeps (Commit own job))
      (λ e. let flight = sounds.in_flight net can caps st sound own job e in
      moved job.block flight.member (Commit own job) (record s { firings = s.firings + s.claimed; claimed = 0 }) (omega arith) (λ _. eq-eqb job.block job.block refl))
      (λ _. stays (Commit own job))

  abandons : (own : Bool) (job : Job) → Keeps (Abandon own job) (abandon_of net st own job)
  unfolding abandon_of
  abandons own job =
      let s = progress_at st.progress job.block in
      if_both (is_in_flight net st own job) _ _ (Keeps (Abandon own job))
      (λ e. let flight = sounds.in_flight net can caps st sound own job e in
      moved job.block flight.member (Abandon own job) (record s { claimed = 0 }) (omega arith) (λ _. eq-eqb job.block job.block refl))
      (λ _. stays (Abandon own job))

  reads : (b from max : ℕ) → Keeps (Read b from max) (read_of net st b from max)
  unfolding read_of
  reads b from max =
      if_both (not (nat_lt b (length net.nodes))) _ _ (Keeps (Read b from max)) (λ _. stays (Read b from max))
      (λ _. if_both (not (is_keeper (role_at net b))) _ _ (Keeps (Read b from max)) (λ _. stays (Read b from max))
      (λ _. if_both (nat_lt (progress_at st.progress b).firings from) _ _ (Keeps (Read b from max)) (λ _. stays (Read b from max)) (λ _. stays (Read b from max))))

  pub keeps : (call : Call) → Keeps call (next net caps st call)
  keeps (Feed b t xs ms) = handing (Feed b t xs ms) (next net caps st (Feed b t xs ms)) (feeds net caps st sound b t xs ms)
  keeps (Close b) = handing (Close b) (next net caps st (Close b)) (closes net caps st sound b)
  keeps (Set b at v) = handing (Set b at v) (next net caps st (Set b at v)) (sets_at net caps st sound b at v)
  keeps (Claim b max) = if_both (nat_lt b (length net.nodes)) _ _ (Keeps (Claim b max)) (λ e. claims b (ltb-true b (length net.nodes) e) max) (λ _. stays (Claim b max))
  keeps (Commit own job) = commits own job
  keeps (Abandon own job) = abandons own job
  keeps (Read b from max) = reads b from max

  -- what is committed and claimed is there
  pub are_there : AreThere net (reached st) st.handed
  are_there =
      record {
        tapes = λ b in1 e. (sound.fits b in1).tape e;
        inputs = λ k d lt.
            let ends = can.levels.rises k d lt in
            let held = (sound.fits (get_or net.connections k d).to ends.1).items k d lt refl in
            let more = given_by-rises (node_at net (get_or net.connections k d).from) (can.sound (get_or net.connections k d).from) (fired st (get_or net.connections k d).from) (reached st (get_or net.connections k d).from) (omega arith) in
            omega arith;
        limits = λ b in1. (sound.fits b in1).limit;
      }

  module _ (b : ℕ) (in' : b < length net.nodes) where
    abbrev m : Meaning
    m = (node_at net b).meaning

    abbrev first : ℕ
    first = (node_at net b).multiple * fired st b

    abbrev count : ℕ
    count = (node_at net b).multiple * (progress_at st.progress b).claimed

    whole : first + count ≡ (node_at net b).multiple * reached st b
    whole = sym (mul-add (node_at net b).multiple (fired st b) (progress_at st.progress b).claimed)

    -- a claim in flight is fed
    pub fed : IsFed m (handed_at st.handed b).settings (entering net st.handed b) first count (in_flight net st b).word (in_flight net st b).windows (in_flight net st b).held
    unfolding job_of
    fed =
        record {
          there = λ p used.
              let hold = inputs_hold net can caps st sound st.handed (handed_same st.handed) b (reached st b) (sound.fits b in') p used in
              let same = ap (m.taken p) whole in
              omega arith;
          windows_are = refl;
          held_are = refl;
          state_is = refl;
        }

    abbrev job_with : Progress → List (List ℤ) → List Held → ℕ → Job
    job_with p windows held word = record { block = b; outputs = used_outputs net b; first = p.firings; count = p.claimed; windows = windows; held = held; word = word }

    -- and stays as it is where what it was given does
    job_as : (after : State) → IsUndisturbed net (reached st) st.handed after.handed b → 0 < (progress_at st.progress b).claimed → progress_at after.progress b ≡ progress_at st.progress b → in_flight net after b ≡ in_flight net st b
    unfolding job_of
    job_as after undisturbed some same =
        let one = mul-le-mul_right (progress_at st.progress b).claimed (can.sound b).some in
        let alike = (undisturbed.firings first count (omega arith) (let w = whole in omega arith)).fed (in_flight net st b).word (in_flight net st b).windows (in_flight net st b).held (fed) in
        let us = (handed_at after.handed b).settings in
        let ys = entering net after.handed b in
        ap (λ (p : Progress). job_with p (windows_of m ys ((node_at net b).multiple * p.firings) ((node_at net b).multiple * p.claimed)) (held_of m us ((node_at net b).multiple * p.firings) ((node_at net b).multiple * p.claimed)) (m.word us ys ((node_at net b).multiple * p.firings))) same
        ∙ sym (ap (λ w. job_with (progress_at st.progress b) w (held_of m us first count) (m.word us ys first)) alike.windows_are)
        ∙ sym (ap (λ h. job_with (progress_at st.progress b) (in_flight net st b).windows h (m.word us ys first)) alike.held_are)
        ∙ sym (ap (λ z. job_with (progress_at st.progress b) (in_flight net st b).windows (in_flight net st b).held z) alike.state_is)

    stays_as : (call : Call) → Stays net st call (next net caps st call).1 b
    stays_as call =
        let undisturbed = what_comes_later_disturbs_nothing net can (reached st) st.handed (next net caps st call).1.handed are_there (λ c in1. (keeps call c).0) b in' in
        record {
          firings = undisturbed;
          rises = (keeps call b).1;
          flight = λ some. elim ((keeps call b).2 some) [
            | inl same ↦ inl (job_as (next net caps st call).1 undisturbed some same)
            | inr back ↦ inr back
          ];
        }

pub what_is_shown_stays : WhatIsShownStays
what_is_shown_stays net caps st can sound call b in' = stays_as net can caps st sound b in' call

pub jobs_are_fed : JobsAreFed
unfolding job_of
jobs_are_fed net caps st can sound b in' = fed net can caps st sound b in'

-- a commit adds what its firings give
pub commits_add_their_work : CommitsAddTheirWork
commits_add_their_work net caps st can sound b in' other p =
    let n = node_at net b in
    let ts = (handed_at st.handed b).settings in
    let xs = entering net st.handed b in
    let most = reached_fires net can caps st sound st.handed (handed_same st.handed) b in' in
    let stream : items_of net st.handed b p ≡ stream_from (node_at net b) (handed_at st.handed b).settings (entering net st.handed b) p =
    streams_unfold net st.handed can.level can.levels b p in' ∙ elim-false (is_source (role_at net b)) (handed_at st.handed b).tape (stream_from (node_at net b) (handed_at st.handed b).settings (entering net st.handed b) p) other in
    ap (take (given_by n (reached st b))) stream
    ∙ stream_from-take n (can.sound b) ts xs p (reached st b) most
    ∙ ap (λ k. given_items n.meaning ts xs 0 k p) (mul-add n.multiple (fired st b) (progress_at st.progress b).claimed)
    ∙ given_items-more n.meaning (can.sound b).lawful ts xs p (n.multiple * fired st b) (n.multiple * (progress_at st.progress b).claimed)
    ∙ sym (ap (λ l. l ++ given_items n.meaning ts xs (n.multiple * fired st b) (n.multiple * (progress_at st.progress b).claimed) p)
    (ap (take (given_by n (fired st b))) stream ∙ stream_from-take n (can.sound b) ts xs p (fired st b) (omega arith)))
