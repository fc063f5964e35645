-- A plant whose calls are recorded.
use Rattle.std.specs.Prelude.{ℕ, ◌≡◌, ◌==◌, List, [], ◌∷◌, ◌++◌, sum_by, cond, Option, Some, None, Result, Ok, Err}
use Rattle.stream_model.specs.Meaning.{Meaning}
use Rattle.stream_model.specs.Network.{State}
use Rattle.stream_model.specs.Machine as machine
use Rattle.stream_model.specs.Machine.{Reply, next, step_of}
use Rattle.flowgraph.specs.Fault.{id}
use Rattle.flowgraph.specs.Flowgraph.{net_of}
use Rattle.plant.specs.Handed.{OpeningState}
use Rattle.plant.specs.Plant.{PlantState}
use Rattle.plant.specs.declared.answers.Did.{Did}
use Rattle.call_history.specs.declared.entry.CallerId.{CallerId}
use Rattle.call_history.specs.declared.entry.CallerId.TheVariants as caller
use Rattle.call_history.specs.History.{Asked, Asks, Brings, Says, Noted, AreOwn, IsRunOf, call_in, said_of}

-- the plant, where it began, and what was recorded since
pub record RecordedState (B : Type 0) : Type 0 where
  pub plant : PlantState B
  pub opening : OpeningState B
  pub history : List Noted

-- what was recorded is a run of the machine from the opening to the plant's state, and each call is one that its caller
-- may make
pub record IsRecord {B : Type 0} (meaning : B → Meaning) (r : RecordedState B) : Type 0 where
  pub graph : r.plant.graph ≡ r.opening.graph
  pub run : IsRunOf (net_of meaning r.plant.graph) r.plant.capacities r.opening.state r.history r.plant.state
  pub own : AreOwn r.history

-- how many claims are in flight
abbrev pub flights_in : State → ℕ
flights_in st = sum_by (λ s. cond (s.claimed == 0) 0 1) st.progress

-- what the machine answers now, and the state after it
abbrev pub now_in : {B : Type 0} → (B → Meaning) → RecordedState B → Asked → Reply × State
now_in meaning r asked = let net = net_of meaning r.plant.graph in next net r.plant.capacities r.plant.state
    (call_in net r.plant.state asked)

-- the plant is in another state, and more is recorded
abbrev pub moved_on : {B : Type 0} → RecordedState B → State → List Noted → RecordedState B
moved_on r st more = record r { plant = record r.plant { state = st }; history = r.history ++ more }

abbrev pub note_of : CallerId → Asked → Reply → Noted
note_of caller asked reply = record { caller = caller; asked = asked; said = said_of reply }

-- a call was answered as the machine does now, and recorded; or it was out of memory, and nothing changed
abbrev pub IsNoted : {B : Type 0} → (B → Meaning) → CallerId → Asked → RecordedState B → RecordedState B → Option Reply
    → Type 0
IsNoted meaning caller asked old new None = new ≡ old
IsNoted meaning caller asked old new (Some reply) = let now = now_in meaning old asked in (reply ≡ now.0)
    × (new ≡ moved_on old now.1 (note_of caller asked reply ∷ []))

-- of what a claim answers, only firings that it hands out and the end of the block are recorded
abbrev pub claim_notes : CallerId → Asked → Reply → List Noted
claim_notes caller asked (machine.Claimed job) = note_of caller asked (machine.Claimed job) ∷ []
claim_notes caller asked machine.Done = note_of caller asked machine.Done ∷ []
claim_notes caller asked reply = []

abbrev pub IsClaimNoted : {B : Type 0} → (B → Meaning) → CallerId → Asked → RecordedState B → RecordedState B
    → Option Reply → Type 0
IsClaimNoted meaning caller asked old new None = new ≡ old
IsClaimNoted meaning caller asked old new (Some reply) = let now = now_in meaning old asked in (reply ≡ now.0)
    × (new ≡ moved_on old now.1 (claim_notes caller asked reply))

-- work that was handed in was taken back as by the machine, and recorded; or it is returned and nothing changed
abbrev pub IsBack : {B J : Type 0} → (B → Meaning) → Reply × State → RecordedState B → RecordedState B → J → (block : ℕ)
    → Result Did J → Type 0
IsBack meaning now old new work b (Ok did) = (now.0 ≡ machine.Did did.0)
    × (new ≡ moved_on old now.1 (record {
      caller = caller.Worker (id b);
      asked = Brings b;
      said = Says
          (machine.Did did.0);
    } ∷ []))
IsBack meaning now old new work b (Err back) = (now.0 ≡ machine.Refused machine.foreign) × (back ≡ work) × (new ≡ old)

-- what is recorded of a step of a block: the claim, and where that handed out firings the commit of their work
abbrev pub step_notes : (block most : ℕ) → (claimed : Reply) → Reply → List Noted
step_notes b most claimed (machine.Did count) =
    note_of (caller.Worker (id b)) (Asks (machine.Claim b most)) claimed ∷ record {
      caller = caller.Worker (id b);
      asked = Brings b;
      said = Says (machine.Did count);
    } ∷ []
step_notes b most claimed reply = claim_notes (caller.Worker (id b)) (Asks (machine.Claim b most)) reply

-- a block was stepped as by the machine, and that was recorded; or it was out of memory, and nothing changed
abbrev pub IsStepNoted : {B : Type 0} → (B → Meaning) → (block most : ℕ) → RecordedState B → RecordedState B
    → Option Reply → Type 0
IsStepNoted meaning b most old new None = new ≡ old
IsStepNoted meaning b most old new (Some reply) =
    let now = step_of (net_of meaning old.plant.graph) old.plant.capacities old.plant.state b most in
    (reply ≡ now.0) × (new ≡ moved_on old now.1 (step_notes b most (now_in meaning old (Asks (machine.Claim b most))).0
    reply))
