-- A claim, its work and its commit are a step.
use Rattle.std.proofs.Common.{◌≡◌, ℕ, Bool, true, false, refl, sym, subst, ◌∙◌}
use Rattle.std.specs.Prelude.{Some}
use Rattle.stream_model.specs.Meaning.{Meaning}
use Rattle.stream_model.specs.Network.{Network, State}
use Rattle.stream_model.specs.Machine as machine
use Rattle.stream_model.specs.Machine.{Job, Reply, commit_claimed, commit_of, next, step_of}
use Rattle.flowgraph.specs.Flowgraph.{net_of}
use Rattle.plant.specs.Answers.{Answered}
use Rattle.plant.specs.Plant.{PlantState}

module _ (net : Network) where
  -- work that is taken back is one's own
  pub taken_own : (st : State) (own : Bool) (job : Job) (n : ℕ) → (commit_of net st own job).0 ≡ machine.Did n → commit_of net st true job ≡ commit_of net st own job
  unfolding commit_of
  taken_own st true job n e = refl
  taken_own st false job n e = absurd (let no : machine.Refused machine.foreign ≡ machine.Did n = e in cc)

  -- where firings are handed out a step commits them
  pub handed_step : (now : Reply × State) (job : Job) → now.0 ≡ machine.Claimed job → commit_claimed net now ≡ commit_of net now.1 true job
  handed_step now job e = subst (λ (r : Reply). commit_claimed net (r, now.1) ≡ commit_of net now.1 true job) (sym e) refl

step_made : {B : Type 0} (meaning : B → Meaning) (old mid new : PlantState B) (b most : ℕ) (job : Job) (own : Bool) (n : ℕ) →
    Answered (next (net_of meaning old.graph) old.capacities old.state (machine.Claim b most)) old mid (Some (machine.Claimed job)) →
    (commit_of (net_of meaning mid.graph) mid.state own job).0 ≡ machine.Did n → new ≡ record mid { state = (commit_of (net_of meaning mid.graph) mid.state own job).1 } →
    Answered (step_of (net_of meaning old.graph) old.capacities old.state b most) old new (Some (machine.Did n))
step_made {B} meaning old mid new b most job own n claimed did left =
    let net = net_of meaning old.graph in
    let now = next net old.capacities old.state (machine.Claim b most) in
    let taken = subst (λ (m : PlantState B). ((commit_of (net_of meaning m.graph) m.state own job).0 ≡ machine.Did n) × (new ≡ record m { state = (commit_of (net_of meaning m.graph) m.state own job).1 })) claimed.1 (did, left) in
    let step = handed_step net now job (sym claimed.0) ∙ taken_own net now.1 own job n taken.0 in
    subst (λ (x : Reply × State). Answered x old new (Some (machine.Did n))) (sym step) (sym taken.0, taken.1)

-- the same where the claim's reply is known to hand out this job
pub step_done : {B : Type 0} (meaning : B → Meaning) (old mid new : PlantState B) (b most : ℕ) (r : Reply) (job : Job) (own : Bool) (n : ℕ) →
    Answered (next (net_of meaning old.graph) old.capacities old.state (machine.Claim b most)) old mid (Some r) → r ≡ machine.Claimed job →
    (commit_of (net_of meaning mid.graph) mid.state own job).0 ≡ machine.Did n → new ≡ record mid { state = (commit_of (net_of meaning mid.graph) mid.state own job).1 } →
    Answered (step_of (net_of meaning old.graph) old.capacities old.state b most) old new (Some (machine.Did n))
step_done meaning old mid new b most r job own n claimed is did left =
    step_made meaning old mid new b most job own n (subst (λ (x : Reply). Answered (next (net_of meaning old.graph) old.capacities old.state (machine.Claim b most)) old mid (Some x)) is claimed) did left
