-- What a claim does that hands firings out.
use Rattle.std.proofs.Common.{◌≡◌, ℕ, ◌<◌, Bool, true, false, length, refl, cond, ltb-true, subst}
use Rattle.std.specs.Prelude.{nat_lt}
use Rattle.stream_model.specs.Network.{Network, State, node_at, progress_at}
use Rattle.stream_model.specs.Claims.{Decision, IsDone, IsBusy, Ends, Fires, LacksItems, LacksRoom, decide}
use Rattle.stream_model.specs.Machine as machine
use Rattle.stream_model.specs.Machine.{Capacities, Job, job_of, counts_of, claim_of, claimed_by, with_progress, next}
use Rattle.machine_laws.proofs.Deciding.{Reason, decide-reason}

pub record Claims (net : Network) (st after : State) (b : ℕ) (job : Job) : Type 0 where
  pub inside : b < length net.nodes
  pub idle : (progress_at st.progress b).claimed ≡ 0
  pub count : ℕ
  pub some : 0 < count
  pub job_is : job ≡ job_of net st b count
  pub state : after ≡ with_progress st b (record (progress_at st.progress b) { claimed = count })

module _ (net : Network) (caps : Capacities) (st : State) (b max : ℕ) where
  claims_by : (job : Job) → b < length net.nodes → (d : Decision) → decide (node_at net b) (counts_of net caps st b) max ≡ d →
      (claimed_by net st b d).0 ≡ machine.Claimed job → Claims net st (claimed_by net st b d).1 b job
  claims_by job in' IsDone e f = absurd (cc)
  claims_by job in' IsBusy e f = absurd (cc)
  claims_by job in' Ends e f = absurd (cc)
  claims_by job in' (Fires count) e f =
      let why = subst (Reason (node_at net b) (counts_of net caps st b) max) e (decide-reason (node_at net b) (counts_of net caps st b) max) in
      record { inside = in'; idle = why.0.idle; count = count; some = why.2; job_is = (let same : machine.Claimed (job_of net st b count) ≡ machine.Claimed job = f in cc); state = refl }
  claims_by job in' (LacksItems p) e f = absurd (cc)
  claims_by job in' (LacksRoom p) e f = absurd (cc)

  claims_inside : (job : Job) → b < length net.nodes → (claim_of net caps st b max).0 ≡ machine.Claimed job → Claims net st (claim_of net caps st b max).1 b job
  unfolding claim_of
  claims_inside job in' = claims_by job in' (decide (node_at net b) (counts_of net caps st b) max) refl

  pub claims : (job : Job) → (next net caps st (machine.Claim b max)).0 ≡ machine.Claimed job → Claims net st (next net caps st (machine.Claim b max)).1 b job
  claims job = at (nat_lt b (length net.nodes)) refl
    where
      at : (t : Bool) → nat_lt b (length net.nodes) ≡ t → (cond t (claim_of net caps st b max) (machine.Refused machine.no_such_block, st)).0 ≡ machine.Claimed job →
          Claims net st (cond t (claim_of net caps st b max) (machine.Refused machine.no_such_block, st)).1 b job
      at true e f = claims_inside job (ltb-true b (length net.nodes) e) f
      at false e f = absurd (let no : machine.Refused machine.no_such_block ≡ machine.Claimed job = f in cc)
