-- What is handed to a plant stays as it is under claims, commits and steps.
use Rattle.std.proofs.Common.{◌≡◌, ℕ, Bool, true, false, List, cond, length, refl, ap, ◌∙◌}
use Rattle.std.specs.Prelude.{nat_lt, Option, Some, None, Result, Ok, Err}
use Rattle.stream_model.specs.Meaning.{Meaning}
use Rattle.stream_model.specs.Network.{Network, State, Handed, node_at}
use Rattle.stream_model.specs.Claims.{Decision, IsDone, IsBusy, Ends, Fires, LacksItems, LacksRoom, decide}
use Rattle.stream_model.specs.Machine as machine
use Rattle.stream_model.specs.Machine.{Capacities, Reply, Job, counts_of, claimed_by, claim_of, commit_of, commit_claimed, is_in_flight, next, step_of}
use Rattle.flowgraph.specs.Flowgraph.{net_of}
use Rattle.plant.specs.Plant.{PlantState}
use Rattle.plant.specs.Answers.{Answered, IsTaken}
use Rattle.threads.specs.Outcomes.{handed_of}

module _ (net : Network) (caps : Capacities) where
  commit_keeps : (st : State) (own : Bool) (job : Job) → (commit_of net st own job).1.handed ≡ st.handed
  unfolding commit_of
  commit_keeps st own job = by_flight (is_in_flight net st own job) _ _ refl refl
    where
      by_flight : (x : Bool) (did given : Reply × State) → did.1.handed ≡ st.handed → given.1.handed ≡ st.handed → (cond x did given).1.handed ≡ st.handed
      by_flight true did given h k = h
      by_flight false did given h k = k

  claim_keeps : (st : State) (b : ℕ) (d : Decision) → (claimed_by net st b d).1.handed ≡ st.handed
  claim_keeps st b IsDone = refl
  claim_keeps st b IsBusy = refl
  claim_keeps st b Ends = refl
  claim_keeps st b (Fires count) = refl
  claim_keeps st b (LacksItems p) = refl
  claim_keeps st b (LacksRoom p) = refl

  step_by : (st : State) (b : ℕ) (d : Decision) → (commit_claimed net (claimed_by net st b d)).1.handed ≡ st.handed
  step_by st b IsDone = refl
  step_by st b IsBusy = refl
  step_by st b Ends = refl
  step_by st b (Fires count) = commit_keeps _ _ _
  step_by st b (LacksItems p) = refl
  step_by st b (LacksRoom p) = refl

  next_keeps : (st : State) (b max : ℕ) → (next net caps st (machine.Claim b max)).1.handed ≡ st.handed
  unfolding claim_of
  next_keeps st b max = by_place (nat_lt b (length net.nodes)) _ _ (claim_keeps st b (decide (node_at net b) (counts_of net caps st b) max)) refl
    where
      by_place : (x : Bool) (here there : Reply × State) → here.1.handed ≡ st.handed → there.1.handed ≡ st.handed → (cond x here there).1.handed ≡ st.handed
      by_place true here there h k = h
      by_place false here there h k = k

  step_keeps : (st : State) (b max : ℕ) → (step_of net caps st b max).1.handed ≡ st.handed
  unfolding claim_of
  step_keeps st b max = by_place (nat_lt b (length net.nodes)) _ _ (step_by st b (decide (node_at net b) (counts_of net caps st b) max)) refl
    where
      by_place : (x : Bool) (here there : Reply × State) → (commit_claimed net here).1.handed ≡ st.handed → (commit_claimed net there).1.handed ≡ st.handed →
          (commit_claimed net (cond x here there)).1.handed ≡ st.handed
      by_place true here there h k = h
      by_place false here there h k = k

-- a call that keeps what was handed in, answered
answered_keeps : {B : Type 0} (now : Reply × State) (old new : PlantState B) (reply : Option Reply) → now.1.handed ≡ old.state.handed → Answered now old new reply → handed_of new ≡ handed_of old
answered_keeps now old new None kept answered = ap handed_of answered.1
answered_keeps now old new (Some reply) kept answered = ap handed_of answered.1 ∙ ap (λ (h : List Handed). record { graph = old.graph; handed = h }) kept

taken_keeps : {B R J : Type 0} (ok : R → Reply) (now : Reply × State) (old new : PlantState B) (job : J) (r : Result R J) → now.1.handed ≡ old.state.handed →
    IsTaken ok now old new job r → handed_of new ≡ handed_of old
taken_keeps ok now old new job (Ok r) kept taken = ap handed_of taken.1 ∙ ap (λ (h : List Handed). record { graph = old.graph; handed = h }) kept
taken_keeps ok now old new job (Err back) kept taken = ap handed_of taken.2

-- the same of the calls of a plant
module _ {B : Type 0} (meaning : B → Meaning) (old new : PlantState B) where
  abbrev net : Network
  net = net_of meaning old.graph

  pub claim_kept : (b most : ℕ) (reply : Option Reply) → Answered (next net old.capacities old.state (machine.Claim b most)) old new reply → handed_of new ≡ handed_of old
  claim_kept b most reply = answered_keeps (next net old.capacities old.state (machine.Claim b most)) old new reply (next_keeps net old.capacities old.state b most)

  pub step_kept : (b most : ℕ) (reply : Option Reply) → Answered (step_of net old.capacities old.state b most) old new reply → handed_of new ≡ handed_of old
  step_kept b most reply = answered_keeps (step_of net old.capacities old.state b most) old new reply (step_keeps net old.capacities old.state b most)

  pub commit_kept : {R J : Type 0} (ok : R → Reply) (own : Bool) (job : Job) (work : J) (r : Result R J) → IsTaken ok (commit_of net old.state own job) old new work r → handed_of new ≡ handed_of old
  commit_kept ok own job work r = taken_keeps ok (commit_of net old.state own job) old new work r (commit_keeps net old.capacities old.state own job)
