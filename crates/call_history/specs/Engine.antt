-- What calls are made of under the lock: a plant, or a plant whose calls are recorded.
use Rattle.std.specs.Prelude.{ℕ, ◌≡◌, Bool, Option, None, Result}
use Rattle.stream_model.specs.Meaning.{Meaning}
use Rattle.stream_model.specs.Network.{State}
use Rattle.stream_model.specs.Machine as machine
use Rattle.stream_model.specs.Machine.{Reply, next, commit_of, step_of}
use Rattle.flowgraph.specs.Fault.{id}
use Rattle.flowgraph.specs.Flowgraph.{net_of}
use Rattle.claimed_work.specs.Jobs.{WorkedState}
use Rattle.plant.specs.Own.{is_own}
use Rattle.plant.specs.Answers.{Answered, IsTaken}
use Rattle.plant.specs.Plant.{PlantState}
use Rattle.plant.specs.declared.answers.Did.{Did}
use Rattle.call_history.specs.declared.engine.Engine.{Engine}
use Rattle.call_history.specs.declared.engine.Engine.TheVariants as engine
use Rattle.call_history.specs.declared.entry.CallerId.TheVariants as caller
use Rattle.call_history.specs.History.{Asked, Asks}
use Rattle.call_history.specs.Recorded.{IsNoted, IsClaimNoted, IsStepNoted, IsBack}

-- the plant
abbrev pub plant_in : {B P : Type 0} → Engine B P → PlantState B
plant_in (engine.Plain p) = p
plant_in (engine.Noted r) = r.plant

-- a worker's claim was answered as the machine does now, and recorded where calls are; or it was out of memory, and
-- nothing changed
abbrev pub HasClaimed : {B P : Type 0} → (B → Meaning) → (block most : ℕ) → Engine B P → Engine B P → Option Reply
    → Type 0
HasClaimed meaning b most (engine.Plain old) (engine.Plain new) reply = Answered
    (next (net_of meaning old.graph) old.capacities old.state (machine.Claim b most)) old new reply
HasClaimed meaning b most (engine.Noted old) (engine.Noted new) reply = IsClaimNoted meaning (caller.Worker (id b))
    (Asks (machine.Claim b most)) old new reply
HasClaimed meaning b most (engine.Plain old) (engine.Noted new) reply = ⊥
HasClaimed meaning b most (engine.Noted old) (engine.Plain new) reply = ⊥

-- a block was stepped as by the machine, and recorded where calls are; or it was out of memory, and nothing changed
abbrev pub HasStepped : {B P : Type 0} → (B → Meaning) → (block most : ℕ) → Engine B P → Engine B P → Option Reply
    → Type 0
HasStepped meaning b most (engine.Plain old) (engine.Plain new) reply = Answered
    (step_of (net_of meaning old.graph) old.capacities old.state b most) old new reply
HasStepped meaning b most (engine.Noted old) (engine.Noted new) reply = IsStepNoted meaning b most old new reply
HasStepped meaning b most (engine.Plain old) (engine.Noted new) reply = ⊥
HasStepped meaning b most (engine.Noted old) (engine.Plain new) reply = ⊥

-- what the machine answers now to work that is brought
abbrev pub commit_now : {B : Type 0} → (B → Meaning) → (B → B → Bool) → PlantState B → WorkedState B → Reply × State
commit_now meaning eq p work = commit_of (net_of meaning p.graph) p.state (is_own eq p.graph work.graph work.job.block)
    work.job

-- work that was brought was taken back as by the machine, and recorded where calls are; or it is returned and nothing
-- changed
abbrev pub HasCommitted : {B P : Type 0} → (B → Meaning) → (B → B → Bool) → WorkedState B → Engine B P → Engine B P
    → Result Did (WorkedState B) → Type 0
HasCommitted meaning eq work (engine.Plain old) (engine.Plain new) result = IsTaken (λ (d : Did). machine.Did d.0)
    (commit_now meaning eq old work) old new work result
HasCommitted meaning eq work (engine.Noted old) (engine.Noted new) result = IsBack meaning
    (commit_now meaning eq old.plant work) old new work work.job.block result
HasCommitted meaning eq work (engine.Plain old) (engine.Noted new) result = ⊥
HasCommitted meaning eq work (engine.Noted old) (engine.Plain new) result = ⊥

-- a caller's call was answered as the machine does now, and recorded; or it was out of memory, or no calls are
-- recorded, and nothing changed
abbrev pub HasCalled : {B P : Type 0} → (B → Meaning) → (desk : ℕ) → Asked → Engine B P → Engine B P → Option Reply
    → Type 0
HasCalled meaning desk asked (engine.Noted old) (engine.Noted new) reply = IsNoted meaning (caller.Desk desk) asked old
    new reply
HasCalled meaning desk asked (engine.Plain old) (engine.Plain new) reply = (reply ≡ None) × (new ≡ old)
HasCalled meaning desk asked (engine.Plain old) (engine.Noted new) reply = ⊥
HasCalled meaning desk asked (engine.Noted old) (engine.Plain new) reply = ⊥
