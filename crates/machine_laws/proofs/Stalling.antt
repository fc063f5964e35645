-- A balanced network that has come to rest is done.
use Rattle.std.proofs.Common.{◌≡◌, ℕ, zero, suc, ◌+◌, ◌<◌, ◌≤◌, Bool, true, false, not, List, length, Some, refl, arith, ap, sym, ◌∙◌, inl, inr, get_or}
use Rattle.std.specs.Prelude.{◌⊎◌, ◌||◌}
use Rattle.std.specs.List.{list_all}
use Rattle.std.proofs.lemmas.Bool.{cases_lt, and_parts, or_parts, true_from_ne_false}
use Rattle.std.proofs.lemmas.List.Elements.{All-from_get_or}
use Rattle.std.proofs.lemmas.List.Sums.{list_all-from_AllPass}
use Rattle.stream_model.specs.Lists.{below}
use Rattle.stream_model.specs.Network.{Network, Progress, State, no_progress, no_connection, node_at, progress_at, role_at, is_source, writers_of, writer_of, taken_by, given_by, within_limit}
use Rattle.stream_model.specs.Claims.{InputCounts, Decision, IsDone, IsBusy, Ends, Fires, LacksItems, LacksRoom, is_finished, lacks_for_good, lacks_items, lacks_room, decide}
use Rattle.stream_model.specs.Machine.{Capacities, capacity_at, counts_in, counts_out, counts_of, claimed_by, claim_of, is_idle, is_waiting, is_quiet}
use Rattle.stream_model.proofs.Streams.{taken_by-rises, given_by-rises}
use Rattle.graph_model.specs.Rates.{HasCapacities, count_after, count_before}
use Rattle.graph_model.proofs.Sizes.{capacities_suffice}
use Rattle.stream_laws.specs.CanRun.{CanRun}
use Rattle.machine_laws.specs.Sound.{fired, Sound}
use Rattle.machine_laws.specs.Stalls.{AreClosed, QuietIsDone, QuietIsWhole}
use Rattle.machine_laws.proofs.Deciding.{Reason, decide-reason}
use Rattle.machine_laws.proofs.Inputs.{input_at, lacks-none, room-none, below-at}
use Rattle.machine_laws.proofs.Looking.{inputs_source, inputs_count, input_is_writer, HasRoom, room_from}
use Rattle.machine_laws.proofs.Ports.{writers_all}
use Rattle.machine_laws.proofs.Rising.{can_count, counts, passes}
use Rattle.machine_laws.proofs.Wholes.{all_done_is_whole}

-- what a block waits for that would not fire
abbrev pub Waits : Network → Capacities → State → ℕ → Type 0
Waits net caps st b =
    (is_finished (node_at net b) (counts_of net caps st b) ≡ false)
    × (((p : ℕ) × (lacks_items (node_at net b) (fired st b + 1) 0 (counts_in net st b) ≡ Some p))
    ⊎ ((p : ℕ) × (lacks_room (node_at net b) (fired st b + 1) 0 (counts_out net caps st b) ≡ Some p)))

module _ (net : Network) (q : List ℕ) (caps : Capacities) (st : State) (can : CanRun net) (enough : HasCapacities net q caps) (sound : Sound net caps st) (closed : AreClosed net st) (quiet : is_quiet net caps st ≡ true) where
  waits_at : (b : ℕ) (d : Decision) → Reason (node_at net b) (counts_of net caps st b) 1 d → is_waiting (claimed_by net st b d).0 ≡ true → Waits net caps st b
  waits_at b IsDone why e = cc
  waits_at b IsBusy why e = cc
  waits_at b Ends why e = cc
  waits_at b (Fires count) why e = cc
  waits_at b (LacksItems p) why e = (why.0, inl (p, why.1))
  waits_at b (LacksRoom p) why e = (why.0, inr (p, why.1))

  live_waits : (done waiting : Bool) → (done || waiting) ≡ true → done ≡ false → waiting ≡ true
  live_waits true waiting e live = cc
  live_waits false waiting e live = e

  -- a live block waits
  waits : (b : ℕ) → b < length net.nodes → (progress_at st.progress b).done ≡ false → Waits net caps st b
  unfolding claim_of
  waits b in1 live =
      let parts = and_parts (is_idle st) (list_all (λ b. (progress_at st.progress b).done || is_waiting (claim_of net caps st b 1).0) (below (length net.nodes))) quiet in
      let rest = below-at (λ b. (progress_at st.progress b).done || is_waiting (claim_of net caps st b 1).0) (length net.nodes) parts.1 b in1 in
      waits_at b (decide (node_at net b) (counts_of net caps st b) 1) (decide-reason (node_at net b) (counts_of net caps st b) 1)
      (live_waits (progress_at st.progress b).done (is_waiting (claim_of net caps st b 1).0) rest live)

  -- each live block has made the firings of the steps before step n
  abbrev pub Before : ℕ → Type 0
  Before n = (b : ℕ) → b < length net.nodes → (progress_at st.progress b).done ≡ false → count_before net q b n ≤ fired st b

  -- and of step n
  abbrev pub Made : ℕ → ℕ → Type 0
  Made n b = (progress_at st.progress b).done ≡ false → count_after net q b n ≤ fired st b

  module _ (n b : ℕ) (in' : b < length net.nodes) (less : fired st b + 1 ≤ count_after net q b n) where
    -- live writers have given what one more firing takes
    items_come : (s : Bool) → is_source (role_at net b) ≡ s → ((c : ℕ) → c < length net.nodes → can.level c < can.level b → Made n c) →
        (p : ℕ) → p < length (counts_in net st b) → (input_at (counts_in net st b) p).ended ≡ false → taken_by (node_at net b) (0 + p) (fired st b + 1) ≤ (input_at (counts_in net st b) p).written
    items_come true e made p used lasts =
        let one = inputs_source net st b e in
        let first : p ≡ 0 = (let l = ap length one in omega arith) in
        let ended = ap (λ (i : InputCounts). i.ended) (ap (input_at (counts_in net st b)) first ∙ ap (λ is. input_at is 0) one) in
        let shut = closed b in' e in
        absurd (cc)
    items_come false e made p used lasts =
        let used' : p < length (writers_of net b) = (let l = inputs_count net st b e in omega arith) in
        let is = input_is_writer net st b e p used' in
        let writer = (writer_of net b p).from in
        let own = writers_all net can (λ c. ((c.from < length net.nodes) × (c.to < length net.nodes) × (can.level c.from < can.level c.to)) × (c.to ≡ b → taken_by (node_at net b) c.in_port (count_after net q b n) ≤ given_by (node_at net c.from) (count_after net q c.from n))) b
        (λ k d lt. (can.levels.rises k d lt, (counts net can q enough.balanced).there b n in' e k d lt)) p no_connection used' in
        let to = own.0 in
        let level = ap can.level to in
        let higher = own.1.0.2 in
        let lower : can.level (writer_of net b p).from < can.level b = omega arith in
        let live : (progress_at st.progress (writer_of net b p).from).done ≡ false = sym (ap (λ (i : InputCounts). i.ended) is) ∙ lasts in
        let kept = made (writer_of net b p).from own.1.0.0 lower live in
        let given = given_by-rises (node_at net (writer_of net b p).from) (can.sound (writer_of net b p).from) (count_after net q (writer_of net b p).from n) (fired st (writer_of net b p).from) kept in
        let there = own.1.1 to in
        let taken = taken_by-rises (node_at net b) (can.sound b) (writer_of net b p).in_port (fired st b + 1) (count_after net q b n) less in
        let written = ap (λ (i : InputCounts). i.written) is in
        let number : taken_by (node_at net b) (0 + p) (fired st b + 1) ≡ taken_by (node_at net b) (writer_of net b p).in_port (fired st b + 1) =
        ap (λ r. taken_by (node_at net b) r (fired st b + 1)) (let same = can.numbered b p used' in omega arith) in
        omega arith

    -- and live readers leave room for one
    room_comes : Before n → HasRoom net st b caps (fired st b + 1)
    room_comes before =
        λ k d lt from live.
        let c = get_or net.connections k d in
        let ahead = enough.room k d lt n in
        let ends = can.levels.rises k d lt in
        let reader = before (get_or net.connections k d).to ends.1 live in
        let taken = taken_by-rises (node_at net (get_or net.connections k d).to) (can.sound (get_or net.connections k d).to) (get_or net.connections k d).in_port (count_before net q (get_or net.connections k d).to n) (fired st (get_or net.connections k d).to) reader in
        let given = given_by-rises (node_at net b) (can.sound b) (fired st b + 1) (count_after net q b n) less in
        let same = ap (λ u. given_by (node_at net u) (count_after net q u n)) from in
        let room = ap (λ u. capacity_at caps u (get_or net.connections k d).out_port) from in
        omega arith

    never : Before n → ((c : ℕ) → c < length net.nodes → can.level c < can.level b → Made n c) → Waits net caps st b → ⊥
    never before made wait =
        elim wait.1 [
          | inl lack ↦ (let parts = or_parts (not (within_limit (node_at net b).meaning.limit (fired st b + 1))) (lacks_for_good (node_at net b) (fired st b + 1) 0 (counts_in net st b)) wait.0 in
              let none = lacks-none (node_at net b) 0 (fired st b + 1) (counts_in net st b) parts.1 (items_come (is_source (role_at net b)) refl made) in
              let some = lack.1 in
              cc)
          | inr lack ↦ (let none = room-none (node_at net b) (fired st b + 1) 0 (counts_out net caps st b) (room_from net st b caps (fired st b + 1) (room_comes before)) in
              let some = lack.1 in
              cc)
        ]

  made : (n turns b : ℕ) → Before n → can.level b < turns → b < length net.nodes → Made n b
  made n zero b before low in1 live = absurd (omega arith)
  made n (suc turns) b before low in1 live =
      elim (cases_lt (fired st b) (count_after net q b n)) [
        | inl less ↦ absurd (never n b in1 (omega arith) before (λ c in2 lower. let h : can.level c < turns = omega arith in made n turns c before h in2) (waits b in1 live))
        | inr there ↦ there
      ]

  before_all : (n : ℕ) → Before n
  before_all zero b in1 live = omega arith
  before_all (suc n) b in1 live = made n (suc (can.level b)) b (before_all n) (omega arith) in1 live

  done : (b : ℕ) → b < length net.nodes → (progress_at st.progress b).done ≡ true
  done b in1 =
      true_from_ne_false (progress_at st.progress b).done
      (λ live. let far = passes net can q enough.balanced b in1 (fired st b + 1) in
      let made = before_all (suc far.0) b in1 live in
      let past = far.1 in
      omega arith)

pub quiet_is_done : QuietIsDone
quiet_is_done net q caps st can enough sound closed quiet =
    list_all-from_AllPass (λ (s : Progress). s.done) st.progress
    (All-from_get_or (λ (s : Progress). s.done ≡ true) st.progress no_progress
    (λ b in1. let in2 : b < length net.nodes = (let count = sound.progress_count in omega arith) in done net q caps st can enough sound closed quiet b in2))

pub quiet_is_whole : QuietIsWhole
quiet_is_whole net q j st can balanced first sound closed quiet =
    let enough = capacities_suffice net q can.level (can_count net can) can.levels balanced j first in
    all_done_is_whole net _ st can sound (quiet_is_done net q _ st can enough sound closed quiet)
