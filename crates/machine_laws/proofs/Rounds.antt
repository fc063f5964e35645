-- A step commits what it claims, and where none moves on the network is quiet.
use Rattle.std.proofs.Common.{◌≡◌, ℕ, ◌+◌, ◌*◌, ◌<◌, Bool, true, false, not, List, length, set, refl, arith, ap, sym, ◌∙◌, subst, inl, inr, get_or-set_same, get_or-set_other, length-set, set-set, cond, lt-ltb, eqb-true, ℤ}
use Rattle.std.specs.Prelude.{nat_lt, ◌&&◌, ◌||◌, ◌==◌}
use Rattle.std.specs.List.{list_all}
use Rattle.std.proofs.lemmas.Bool.{cases_eq, and_from, and_parts, eq-eqb}
use Rattle.std.proofs.lemmas.List.Elements.{All-from_get_or}
use Rattle.std.proofs.lemmas.List.Sums.{AllPass-from_list_all, list_all-from_AllPass}
use Rattle.stream_model.specs.Lists.{below}
use Rattle.stream_model.specs.Meaning.{windows_of, held_of}
use Rattle.stream_model.specs.Settings.{Held}
use Rattle.stream_model.specs.Network.{Network, Progress, State, no_progress, node_at, handed_at, progress_at, used_outputs, entering, within_limit}
use Rattle.stream_model.specs.Claims.{Decision, IsDone, IsBusy, Ends, Fires, LacksItems, LacksRoom, has_items, has_room, is_unread, is_finished, may_fire, decide}
use Rattle.stream_model.specs.Machine.{Capacities, Claim, Job, Reply, Refused, no_such_block, with_progress, counts_in, counts_out, counts_of, claimed_by, claim_of, is_in_flight, commit_of, job_of, jobs_agree, commit_claimed, step_of, is_idle, is_waiting}
use Rattle.machine_laws.specs.Sound.{fired, Sound}
use Rattle.machine_laws.specs.Steps.{moves_on, IdleStepsStay, StuckIsQuiet}
use Rattle.machine_laws.proofs.Agreeing.{jobs_agree-same}
use Rattle.machine_laws.proofs.Choices.{if_both}
use Rattle.machine_laws.proofs.Deciding.{Reason, decide-reason, items_none}
use Rattle.machine_laws.proofs.Inputs.{room-none, below-from}

-- nothing is claimed, block by block
idle_at : (st : State) → is_idle st ≡ true → (c : ℕ) → c < length st.progress → (progress_at st.progress c).claimed ≡ 0
idle_at st idle c in1 = eqb-true _ 0 (AllPass-from_list_all (λ (s : Progress). s.claimed == 0) st.progress idle c no_progress in1)

idle_from : (st : State) → ((c : ℕ) → c < length st.progress → (progress_at st.progress c).claimed ≡ 0) → is_idle st ≡ true
idle_from st each = list_all-from_AllPass (λ (s : Progress). s.claimed == 0) st.progress (All-from_get_or (λ (s : Progress). (s.claimed == 0) ≡ true) st.progress no_progress (λ c in1. eq-eqb _ 0 (each c in1)))

module _ (net : Network) (caps : Capacities) (st : State) (sound : Sound net caps st) (idle : is_idle st ≡ true) where
  none_claimed : (b : ℕ) → b < length net.nodes → (progress_at st.progress b).claimed ≡ 0
  none_claimed b in1 = idle_at st idle b (rw sound.progress_count in1)

  module _ (b : ℕ) (in' : b < length net.nodes) where
    -- a progress without a claim keeps all idle
    idle_set : (s : Progress) → s.claimed ≡ 0 → is_idle (with_progress st b s) ≡ true
    idle_set s none =
        idle_from (with_progress st b s)
        (λ c in1. elim (cases_eq c b) [
          | inl e ↦ ap (λ k. (progress_at (set st.progress b s) k).claimed) e ∙ ap (λ (p : Progress). p.claimed) (get_or-set_same st.progress b s no_progress (rw sound.progress_count in')) ∙ none
          | inr ne ↦ ap (λ (p : Progress). p.claimed) (get_or-set_other st.progress b c s no_progress ne) ∙ idle_at st idle c (rw (← length-set st.progress b s) in1)
        ])

    -- what a step comes to
    abbrev Steps : ℕ → Reply × State → Type 0
    Steps max r =
        (is_idle r.1 ≡ true)
        × (moves_on st (Claim b max) r.0 ≡ false → r.1 ≡ st)

    abbrev job_with : Progress → List (List ℤ) → List Held → ℕ → Job
    job_with p windows held word = record { block = b; outputs = used_outputs net b; first = p.firings; count = p.claimed; windows = windows; held = held; word = word }

    -- why the block waits
    record Lacks : Type 0 where
      pub lasts : is_finished (node_at net b) (counts_of net caps st b) ≡ false
      pub read : is_unread (counts_of net caps st b) ≡ false
      pub lacks : (has_items (node_at net b) (counts_of net caps st b) 1 && has_room (node_at net b) (counts_of net caps st b) 1) ≡ true → ⊥

    module _ (count : ℕ) (some : 0 < count) where
      abbrev claimed : State
      claimed = with_progress st b (record (progress_at st.progress b) { claimed = count })

      here : progress_at claimed.progress b ≡ record (progress_at st.progress b) { claimed = count }
      here = get_or-set_same st.progress b (record (progress_at st.progress b) { claimed = count }) no_progress (rw sound.progress_count in')

      job_same : job_of net st b count ≡ job_of net claimed b (progress_at claimed.progress b).claimed
      unfolding job_of
      job_same =
          let n = node_at net b in
          let ts = (handed_at st.handed b).settings in
          let xs = entering net st.handed b in
          sym (ap (λ (p : Progress). job_with p (windows_of n.meaning xs (n.multiple * p.firings) (n.multiple * p.claimed)) (held_of n.meaning ts (n.multiple * p.firings) (n.multiple * p.claimed)) (n.meaning.word ts xs (n.multiple * p.firings))) here)

      is_claimed : is_in_flight net claimed true (job_of net st b count) ≡ true
      unfolding job_of
      is_claimed =
          let same = ap (λ (p : Progress). p.claimed) here in
          and_from (nat_lt b (length net.nodes) && nat_lt 0 (progress_at claimed.progress b).claimed) (jobs_agree (job_of net st b count) (job_of net claimed b (progress_at claimed.progress b).claimed))
          (and_from (nat_lt b (length net.nodes)) (nat_lt 0 (progress_at claimed.progress b).claimed) (lt-ltb b (length net.nodes) in') (lt-ltb 0 (progress_at claimed.progress b).claimed (omega arith)))
          (jobs_agree-same (job_of net st b count) (job_of net claimed b (progress_at claimed.progress b).claimed) job_same)

      -- and is committed
      commit_moves : (max : ℕ) → moves_on st (Claim b max) (commit_of net claimed true (job_of net st b count)).0 ≡ true
      unfolding commit_of
      commit_moves max =
          if_both (is_in_flight net claimed true (job_of net st b count)) _ _ (λ (r : Reply × State). moves_on st (Claim b max) r.0 ≡ true)
          (λ _. refl) (λ e. absurd (let f = is_claimed in cc))

      commit_idle : is_idle (commit_of net claimed true (job_of net st b count)).1 ≡ true
      unfolding commit_of job_of
      commit_idle =
          if_both (is_in_flight net claimed true (job_of net st b count)) _ _ (λ (r : Reply × State). is_idle r.1 ≡ true)
          (λ _. subst (λ ps. is_idle (record { handed = st.handed; progress = ps }) ≡ true) (sym (set-set st.progress b (record (progress_at st.progress b) { claimed = count }) (record (progress_at claimed.progress b) { firings = (progress_at claimed.progress b).firings + (progress_at claimed.progress b).claimed; claimed = 0 })))
          (idle_set (record (progress_at claimed.progress b) { firings = (progress_at claimed.progress b).firings + (progress_at claimed.progress b).claimed; claimed = 0 }) refl))
          (λ e. absurd (let f = is_claimed in cc))

    done_moves : (max : ℕ) → 0 < max → (progress_at st.progress b).done ≡ false → (nat_lt 0 max && not (progress_at st.progress b).done) ≡ true
    done_moves max some live = and_from (nat_lt 0 max) (not (progress_at st.progress b).done) (lt-ltb 0 max some) (ap not live)

    step_at : (max : ℕ) → 0 < max → (d : Decision) → Reason (node_at net b) (counts_of net caps st b) max d → Steps max (commit_claimed net (claimed_by net st b d))
    step_at max some IsDone why = (idle, λ _. refl)
    step_at max some IsBusy why = (idle, λ _. refl)
    step_at max some (LacksItems p) why = (idle, λ _. refl)
    step_at max some (LacksRoom p) why = (idle, λ _. refl)
    step_at max some Ends why =
        let live : (progress_at st.progress b).done ≡ false = why.0.live in
        let moves = done_moves max some live in
        (idle_set (record (progress_at st.progress b) { done = true }) (none_claimed b in'), λ e. absurd (cc))
    step_at max some (Fires count) why = (commit_idle count why.2, λ e. absurd (let moves = commit_moves count why.2 max in cc))

    -- where a step of a live block does not move on, its claim waits
    lacks : (max : ℕ) → 0 < max → (progress_at st.progress b).done ≡ false → (d : Decision) → Reason (node_at net b) (counts_of net caps st b) max d →
        moves_on st (Claim b max) (commit_claimed net (claimed_by net st b d)).0 ≡ false → Lacks
    lacks max some live IsDone why e = absurd (let done = why some in cc)
    lacks max some live IsBusy why e = absurd (let none = none_claimed b in' in omega arith)
    lacks max some live (LacksItems p) why e = record { lasts = why.0; read = why.2; lacks = λ fits. (let none = items_none (node_at net b) 0 (fired st b + 1) (counts_in net st b) (and_parts (has_items (node_at net b) (counts_of net caps st b) 1) (has_room (node_at net b) (counts_of net caps st b) 1) fits).0 in let one = why.1 in cc) }
    lacks max some live (LacksRoom p) why e = record { lasts = why.0; read = why.2; lacks = λ fits. (let none = room-none (node_at net b) (fired st b + 1) 0 (counts_out net caps st b) (and_parts (has_items (node_at net b) (counts_of net caps st b) 1) (has_room (node_at net b) (counts_of net caps st b) 1) fits).1 in let one = why.1 in cc) }
    lacks max some live Ends why e = absurd (let moves = done_moves max some live in cc)
    lacks max some live (Fires count) why e = absurd (let moves = commit_moves count why.2 max in cc)

    waits : (progress_at st.progress b).done ≡ false → Lacks → (d : Decision) → Reason (node_at net b) (counts_of net caps st b) 1 d → is_waiting (claimed_by net st b d).0 ≡ true
    waits live lack IsDone why = absurd (let done = why (omega arith) in cc)
    waits live lack IsBusy why = absurd (let none = none_claimed b in' in omega arith)
    waits live lack (LacksItems p) why = refl
    waits live lack (LacksRoom p) why = refl
    waits live lack Ends why = absurd (elim why.1 [ inl unread ↦ (let read = lack.read in cc) | inr finished ↦ (let lasts = lack.lasts in cc) ])
    waits live lack (Fires count) why =
        let one : count ≡ 1 = (let some = why.2 in let few = why.3 in omega arith) in
        absurd (lack.lacks (and_parts _ (within_limit (node_at net b).meaning.limit (fired st b + 1)) (subst (λ k. may_fire (node_at net b) (counts_of net caps st b) k ≡ true) one why.1)).0)

    step_stays : (max : ℕ) → 0 < max → Steps max (step_of net caps st b max)
    unfolding claim_of
    step_stays max some =
        subst (λ t. Steps max (commit_claimed net (cond t (claim_of net caps st b max) (Refused no_such_block, st)))) (sym (lt-ltb b (length net.nodes) in'))
        (step_at max some (decide (node_at net b) (counts_of net caps st b) max) (decide-reason (node_at net b) (counts_of net caps st b) max))

    stuck_waits : (max : ℕ) → 0 < max → moves_on st (Claim b max) (step_of net caps st b max).0 ≡ false → (progress_at st.progress b).done ≡ false → is_waiting (claim_of net caps st b 1).0 ≡ true
    unfolding claim_of
    stuck_waits max some still live =
        waits live
        (lacks max some live (decide (node_at net b) (counts_of net caps st b) max) (decide-reason (node_at net b) (counts_of net caps st b) max)
        (subst (λ t. moves_on st (Claim b max) (commit_claimed net (cond t (claim_of net caps st b max) (Refused no_such_block, st))).0 ≡ false) (lt-ltb b (length net.nodes) in') still))
        (decide (node_at net b) (counts_of net caps st b) 1) (decide-reason (node_at net b) (counts_of net caps st b) 1)

pub idle_steps_stay : IdleStepsStay
idle_steps_stay net caps st can sound idle b max in' some = step_stays net caps st sound idle b in' max some

done_or : (done waiting : Bool) → (done ≡ false → waiting ≡ true) → (done || waiting) ≡ true
done_or true waiting h = refl
done_or false waiting h = h refl

pub stuck_is_quiet : StuckIsQuiet
stuck_is_quiet net caps st can sound idle max stuck =
    and_from (is_idle st) (list_all (λ b. (progress_at st.progress b).done || is_waiting (claim_of net caps st b 1).0) (below (length net.nodes))) idle
    (below-from (λ b. (progress_at st.progress b).done || is_waiting (claim_of net caps st b 1).0) (length net.nodes)
    (λ b in1. done_or (progress_at st.progress b).done (is_waiting (claim_of net caps st b 1).0) (stuck_waits net caps st sound idle b in1 (max b) (stuck b in1).0 (stuck b in1).1)))
