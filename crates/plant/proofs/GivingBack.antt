-- A claim in flight is given up, or committed.
use Rattle.std.proofs.Common.{◌≡◌, ℕ, ◌<◌, ◌*◌, List, Option, Some, None, true, length, refl, arith, ap, sym, ◌∙◌, subst, lt-ltb, get_or-set_same, set-set}
use Rattle.std.proofs.lemmas.Bool.{and_from, cond-true}
use Rattle.std.proofs.lemmas.List.{set-get_or}
use Rattle.std.specs.Prelude.{nat_lt, ◌&&◌}
use Rattle.stream_model.specs.Meaning.{windows_of, held_of}
use Rattle.stream_model.specs.Network.{Network, Progress, State, node_at, handed_at, no_progress, progress_at, used_outputs, entering}
use Rattle.stream_model.specs.Claims as claims
use Rattle.stream_model.specs.Claims.{IsDone, IsBusy, Ends, Fires, LacksItems, LacksRoom, decide}
use Rattle.stream_model.specs.Machine as machine
use Rattle.stream_model.specs.Machine.{Capacities, Abandon, Claim, Job, Reply, Abandoned, Claimed, Did, with_progress, counts_of, claimed_by, claim_of, is_in_flight, jobs_agree, job_of, abandon_of, commit_of, commit_claimed, next, step_of}
use Rattle.stream_laws.specs.CanRun.{CanRun}
use Rattle.machine_laws.specs.Stays.{in_flight}
use Rattle.machine_laws.proofs.Deciding.{Reason, decide-reason}
use Rattle.plant_laws.proofs.Handing.{abandoning_holds}
use Rattle.firing_rules.specs.Decision.{answer_of}
use Rattle.firing_rules.specs.Firings.{abandoned}
use Rattle.firing_rules.specs.declared.decision.Decision.{Decision}
use Rattle.firing_rules.specs.declared.decision.Decision.TheVariants as decision
use Rattle.machine_laws.proofs.Agreeing.{jobs_agree-same}
use Rattle.plant_storage.specs.declared.stores.Stores.{Stores}
use Rattle.plant_storage.specs.Stores.{state_of, stored_in}
use Rattle.plant.specs.Plant.{Keeps, KeepsBut, IsFlight, with_claim_done, without_claim}
use Rattle.plant.specs.Answers.{waiting_reply}
use Rattle.plant.proofs.Claiming.{all_room, keeps_called, keeps_from}

module _ (net : Network) (st : State) (b : ℕ) (in' : b < length net.nodes) (some : 0 < (progress_at st.progress b).claimed) where
  flies : is_in_flight net st true (in_flight net st b) ≡ true
  unfolding job_of
  flies =
      and_from (nat_lt b (length net.nodes) && nat_lt 0 (progress_at st.progress b).claimed) (jobs_agree (in_flight net st b) (job_of net st b (progress_at st.progress b).claimed))
      (and_from (nat_lt b (length net.nodes)) (nat_lt 0 (progress_at st.progress b).claimed) (lt-ltb b (length net.nodes) in') (lt-ltb 0 (progress_at st.progress b).claimed some))
      (jobs_agree-same (in_flight net st b) (job_of net st b (progress_at st.progress b).claimed) refl)

  pub gives_up : abandon_of net st true (in_flight net st b) ≡ (Abandoned, without_claim st b)
  unfolding abandon_of job_of
  gives_up = cond-true (is_in_flight net st true (in_flight net st b)) _ _ flies

  pub commits : commit_of net st true (in_flight net st b) ≡ (Did (progress_at st.progress b).claimed, with_claim_done st b)
  unfolding commit_of job_of
  commits = cond-true (is_in_flight net st true (in_flight net st b)) _ _ flies

-- once it is given up, all blocks have their room
pub keeps_abandoned : (net : Network) (caps : Capacities) (can : CanRun net) (s : Stores) (ps : List Progress) (b : ℕ) → KeepsBut net caps s ps b →
    b < length net.nodes → 0 < (progress_at ps b).claimed → Keeps net caps s (abandoned ps b)
keeps_abandoned net caps can s ps b keeps in' some =
    let st = state_of s.handed.items ps in
    let up = gives_up net st b in' some in
    let none : (progress_at (abandoned ps b) b).claimed ≡ 0 = ap (λ (p : Progress). p.claimed) (get_or-set_same ps b (record (progress_at ps b) { claimed = 0 }) no_progress (rw keeps.sound.progress_count in')) in
    keeps_from net caps s (abandoned ps b) b
    (keeps_called net caps can s ps b keeps (Abandon true (in_flight net st b)) (λ a ne. refl) s (abandoned ps b) (ap (λ (r : Reply × State). r.1) up) refl
    (abandoning_holds net caps st (stored_in s) can keeps.sound keeps.stored true (in_flight net st b) (ap (λ (r : Reply × State). r.0) up)) (all_room s))
    (λ flying. absurd (let n = none in omega arith))

-- the replies that say that nothing was claimed
abbrev pub plain_reply : Decision → Option Reply
plain_reply (decision.Claimed first count) = None
plain_reply decision.Done = Some machine.Done
plain_reply decision.Ended = Some machine.Done
plain_reply decision.Busy = Some machine.Busy
plain_reply (decision.Waiting need) = Some (waiting_reply need)

-- a claim that was just made
module _ (net : Network) (caps : Capacities) (st : State) (b max : ℕ) (in' : b < length net.nodes) (there : b < length st.progress) where
  abbrev decided : claims.Decision
  decided = decide (node_at net b) (counts_of net caps st b) max

  abbrev after : State
  after = (claim_of net caps st b max).1

  claims_are : (d : claims.Decision) → decided ≡ d → claim_of net caps st b max ≡ claimed_by net st b d
  unfolding claim_of
  claims_are d e = ap (claimed_by net st b) e

  next_claims : next net caps st (Claim b max) ≡ claim_of net caps st b max
  next_claims = cond-true (nat_lt b (length net.nodes)) _ _ (lt-ltb b (length net.nodes) in')

  fires_as : (d : claims.Decision) (k first count : ℕ) → decision.Claimed first count ≡ answer_of k d → (d ≡ Fires count) × (first ≡ k)
  fires_as IsDone k first count e = absurd (cc)
  fires_as IsBusy k first count e = absurd (cc)
  fires_as Ends k first count e = absurd (cc)
  fires_as (Fires n) k first count e = (ap Fires (let is : n ≡ count = cc in is), cc)
  fires_as (LacksItems p) k first count e = absurd (cc)
  fires_as (LacksRoom p) k first count e = absurd (cc)

  module _ (first count : ℕ) (is : decision.Claimed first count ≡ answer_of (progress_at st.progress b).firings decided) where
    fires : decided ≡ Fires count
    fires = (fires_as decided (progress_at st.progress b).firings first count is).0

    why : Reason (node_at net b) (counts_of net caps st b) max (Fires count)
    why = subst (Reason (node_at net b) (counts_of net caps st b) max) fires (decide-reason (node_at net b) (counts_of net caps st b) max)

    abbrev own : Progress
    own = record (progress_at st.progress b) { claimed = count }

    after_is : after ≡ with_progress st b own
    after_is = ap (λ (r : Reply × State). r.1) (claims_are (Fires count) fires)

    here : progress_at (with_progress st b own).progress b ≡ own
    here = get_or-set_same st.progress b own no_progress there

    at : progress_at (after).progress b ≡ own
    at = ap (λ (x : State). progress_at x.progress b) after_is ∙ here

    pub is_flight : IsFlight net (after) b first count
    is_flight = record {
      inside = in';
      some = why.2;
      first_is = (fires_as decided (progress_at st.progress b).firings first count is).1 ∙ sym (ap (λ (p : Progress). p.firings) at);
      count_is = sym (ap (λ (p : Progress). p.claimed) at);
    }

    abbrev job_with : Progress → Job
    job_with p = let n = node_at net b in let ts = (handed_at st.handed b).settings in let xs = entering net st.handed b in record {
      block = b;
      outputs = used_outputs net b;
      first = p.firings;
      count = p.claimed;
      windows = windows_of n.meaning xs (n.multiple * p.firings) (n.multiple * p.claimed);
      held = held_of n.meaning ts (n.multiple * p.firings) (n.multiple * p.claimed);
      word = n.meaning.word ts xs (n.multiple * p.firings);
    }

    job_same : in_flight net (with_progress st b own) b ≡ job_of net st b count
    unfolding job_of
    job_same = ap job_with here

    -- what a claim answers
    pub claimed_now : next net caps st (Claim b max) ≡ (Claimed (in_flight net (after) b), after)
    claimed_now =
        next_claims ∙ claims_are (Fires count) fires
        ∙ ap (λ j. (Claimed j, with_progress st b own)) (sym job_same)
        ∙ ap (λ x. (Claimed (in_flight net x b), x)) (sym after_is)

    -- and a step
    pub stepped_now : step_of net caps st b max ≡ (Did count, with_claim_done (after) b)
    stepped_now =
        ap (commit_claimed net) claimed_now
        ∙ commits net (after) b in' (subst (λ (p : Progress). 0 < p.claimed) (sym at) why.2)
        ∙ ap (λ (p : Progress). (Did p.claimed, with_claim_done (after) b)) at

    -- given up, it is as if it had not been made
    pub back : without_claim (after) b ≡ st
    back =
        let p = progress_at st.progress b in
        ap (λ x. without_claim x b) after_is
        ∙ ap (λ (q : Progress). with_progress (with_progress st b own) b (record q { claimed = 0 })) here
        ∙ ap (λ k. with_progress (with_progress st b own) b (record p { claimed = k })) (sym why.0.idle)
        ∙ ap (λ ps. (let x : State = record { handed = st.handed; progress = ps } in x)) (set-set st.progress b own p ∙ set-get_or st.progress b no_progress)

  abbrev Says : claims.Decision → Reply → Type 0
  Says d r = (claimed_by net st b d ≡ (r, (claimed_by net st b d).1)) × (commit_claimed net (claimed_by net st b d) ≡ (r, (claimed_by net st b d).1))

  says : (r' r : Reply) (x : State) → ◌≡◌ {A = Option Reply} (Some r') (Some r) → ◌≡◌ {A = Reply × State} (r', x) (r, x)
  says r' r x e = ap (λ y. (y, x)) (let is : r' ≡ r = cc in is)

  plainly : (d : claims.Decision) (k : ℕ) (r : Reply) → plain_reply (answer_of k d) ≡ Some r → Says d r
  plainly IsDone k r e = (says _ r _ e, says _ r _ e)
  plainly IsBusy k r e = (says _ r _ e, says _ r _ e)
  plainly Ends k r e = (says _ r _ e, says _ r _ e)
  plainly (Fires count) k r e = absurd (cc)
  plainly (LacksItems p) k r e = (says _ r _ e, says _ r _ e)
  plainly (LacksRoom p) k r e = (says _ r _ e, says _ r _ e)

  module _ (d : Decision) (r : Reply) (is : d ≡ answer_of (progress_at st.progress b).firings decided) (plain : plain_reply d ≡ Some r) where
    said : Says decided r
    said = plainly decided (progress_at st.progress b).firings r (ap plain_reply (sym is) ∙ plain)

    pub answered_now : next net caps st (Claim b max) ≡ (r, after)
    unfolding claim_of
    answered_now = next_claims ∙ said.0

    pub step_answered : step_of net caps st b max ≡ (r, after)
    unfolding claim_of
    step_answered = ap (commit_claimed net) next_claims ∙ said.1
