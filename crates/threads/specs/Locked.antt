-- What a worker's turn does under the lock.
use Rattle.std.specs.Prelude.{ℕ, ◌≡◌, ◌⊎◌, ⊤, Bool, true, Option, Some, None, Result}
use Rattle.stream_model.specs.Meaning.{Meaning}
use Rattle.stream_model.specs.Machine as machine
use Rattle.claimed_work.specs.Jobs.{WorkedState}
use Rattle.plant.specs.Answers.{refusal_of, waiting_reply}
use Rattle.plant.specs.declared.answers.Did.{Did}
use Rattle.plant_faults.specs.declared.fault.PlantFault.{PlantFault}
use Rattle.call_history.specs.declared.engine.Engine.{Engine}
use Rattle.threads.specs.declared.locked.Locked.{Locked}
use Rattle.threads.specs.declared.locked.Next.{Next}
use Rattle.threads.specs.declared.locked.Next.TheVariants as next
use Rattle.call_history.specs.Engine.{plant_in, HasClaimed, HasCommitted}

-- what a worker brought was committed
abbrev pub HasBrought : {B P : Type 0} → (B → Meaning) → (B → B → Bool) → Option (WorkedState B) → Engine B P
    → Engine B P → Type 0
HasBrought meaning eq None old new = new ≡ old
HasBrought {B} meaning eq (Some work) old new = (r : Result Did (WorkedState B))
    × HasCommitted meaning eq work old new r

-- a worker leaves since its block is done, or since the run ends: before it claims, or as its claim is busy or refused
abbrev pub HasLeft : {B P : Type 0} → (B → Meaning) → (block most : ℕ) → Locked B P → Locked B P → Type 0
HasLeft meaning b most old new =
    HasClaimed meaning b most old.engine new.engine (Some machine.Done)
    ⊎ ((new.ends ≡ true)
    × ((new.engine ≡ old.engine)
    ⊎ (HasClaimed meaning b most old.engine new.engine (Some machine.Busy)
    ⊎ ((new.starved ≡ true) × ((fault : PlantFault) × HasClaimed meaning b most old.engine new.engine
    (refusal_of fault))))))

-- what a worker has to do next is what its claim was answered
abbrev pub HasNext : {B P : Type 0} → (B → Meaning) → (block most : ℕ) → Locked B P → Locked B P → Next B P → Type 0
HasNext meaning b most old new (next.Work job) = (job.graph ≡ (plant_in old.engine).graph)
    × HasClaimed meaning b most old.engine new.engine (Some (machine.Claimed job.job))
HasNext meaning b most old new (next.Sleep need) = HasClaimed meaning b most old.engine new.engine
    (Some (waiting_reply need))
HasNext meaning b most old new next.Leave = HasLeft meaning b most old new

-- a turn commits what its worker brought, and then claims for its block
pub record HasTurned {B P : Type 0} (meaning : B → Meaning) (eq : B → B → Bool) (block most : ℕ)
    (brought : Option (WorkedState B)) (old new : Locked B P) (next : Next B P) : Type 0 where
  pub between : Locked B P
  pub committed : HasBrought meaning eq brought old.engine between.engine
  pub claimed : HasNext meaning block most between new next

-- the work that a worker is given is of its own block
abbrev pub IsOwn : {B P : Type 0} → (block : ℕ) → Next B P → Type 0
IsOwn b (next.Work job) = job.job.block ≡ b
IsOwn b (next.Sleep need) = ⊤
IsOwn b next.Leave = ⊤
