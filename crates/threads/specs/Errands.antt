-- What the turn of a thread of a pool does under the lock.
use Rattle.std.specs.Prelude.{ℕ, zero, suc, ◌≡◌, ◌⊎◌, Bool, true, false, Option, Some, None, Result, Ok, Err}
use Rattle.stream_model.specs.Meaning.{Meaning}
use Rattle.stream_model.specs.Machine as machine
use Rattle.stream_model.specs.Machine.{Job}
use Rattle.claimed_work.specs.Jobs.{WorkedState}
use Rattle.plant.specs.Answers.{claim_reply, reply_of, step_reply}
use Rattle.plant.specs.declared.answers.Claim.{Claim}
use Rattle.plant.specs.declared.answers.Claim.TheVariants as claim
use Rattle.plant.specs.declared.answers.Step.{Step}
use Rattle.plant_faults.specs.declared.fault.PlantFault.{PlantFault}
use Rattle.call_history.specs.declared.engine.Engine.{Engine}
use Rattle.threads.specs.declared.errands.Errand.{Errand}
use Rattle.threads.specs.declared.errands.Errand.TheVariants as errand
use Rattle.threads.specs.declared.locked.Locked.{Locked}
use Rattle.call_history.specs.Engine.{plant_in, HasClaimed, HasStepped}
use Rattle.threads.specs.Locked.{HasBrought}

-- a block was stepped as by the machine, whatever the answer was
abbrev pub IsStepped : {B P : Type 0} → (B → Meaning) → (block most : ℕ) → Engine B P → Engine B P → Type 0
IsStepped meaning b most old new = (r : Result Step PlantFault) × HasStepped meaning b most old new
    (reply_of step_reply r)

-- whether a claim hands out work
abbrev pub gives_work : {B P : Type 0} → Result (Claim B P) PlantFault → Bool
gives_work (Ok (claim.Claimed job)) = true
gives_work (Ok claim.Done) = false
gives_work (Ok claim.Busy) = false
gives_work (Ok (claim.Waiting need)) = false
gives_work (Err fault) = false

-- a block was claimed for as by the machine, and that handed out no work
abbrev pub IsAsked : {B P : Type 0} → (B → Meaning) → (block most : ℕ) → Engine B P → Engine B P → Type 0
IsAsked {B} {P} meaning b most old new = (r : Result (Claim B P) PlantFault)
    × HasClaimed meaning b most old new (reply_of claim_reply r) × (gives_work r ≡ false)

-- a claim of some block handed out this work
abbrev pub IsGiven : {B P : Type 0} → (B → Meaning) → Engine B P → Engine B P → Job → Type 0
IsGiven meaning old new job = (block : ℕ) × (most : ℕ) × HasClaimed meaning block most old new
    (Some (machine.Claimed job))

-- one block was acted for, and the turn goes on; or it ends: with work, with none, or since the run ends
abbrev pub HasStep : {B P : Type 0} → (B → Meaning) → Engine B P → Engine B P → (ends : Bool) → Option (Errand B P)
    → Type 0
HasStep meaning old new ends None = ((block : ℕ) × (most : ℕ) × IsAsked meaning block most old new)
    ⊎ ((block : ℕ) × (most : ℕ) × IsStepped meaning block most old new)
HasStep meaning old new ends (Some (errand.Work job nanos)) = (job.graph ≡ (plant_in old).graph)
    × IsGiven meaning old new job.job
HasStep meaning old new ends (Some errand.Again) = new ≡ old
HasStep meaning old new ends (Some errand.Sleep) = new ≡ old
HasStep meaning old new ends (Some errand.Leave) = (ends ≡ true) × ((new ≡ old)
    ⊎ ((block : ℕ) × (most : ℕ) × IsAsked meaning block most old new))

-- so many blocks were acted for, one after another
abbrev pub ActsLead : {B P : Type 0} → (B → Meaning) → (count : ℕ) → Engine B P → Engine B P → Type 0
ActsLead meaning zero old new = new ≡ old
ActsLead {B} {P} meaning (suc n) old new = (mid : Engine B P) × ActsLead meaning n old mid
    × HasStep meaning mid new false None

-- a turn acted for blocks, and then it ended so
abbrev pub HasErrand : {B P : Type 0} → (B → Meaning) → Engine B P → Engine B P → (ends : Bool) → Errand B P → Type 0
HasErrand {B} {P} meaning old new ends errand = (count : ℕ) × (mid : Engine B P) × ActsLead meaning count old mid
    × HasStep meaning mid new ends (Some errand)

-- a turn commits what its thread brought, and goes on from there
pub record HasRun {B P : Type 0} (meaning : B → Meaning) (eq : B → B → Bool) (brought : Option (WorkedState B))
    (old new : Locked B P) (errand : Errand B P) : Type 0 where
  pub between : Engine B P
  pub committed : HasBrought meaning eq brought old.engine between
  pub did : HasErrand meaning between new.engine new.ends errand
