-- How a run in threads ends.
use Rattle.std.specs.Prelude.{ℕ, ◌≡◌, ⊤, List, Bool, true, false}
use Rattle.stream_model.specs.Meaning.{Meaning}
use Rattle.stream_model.specs.Machine.{is_idle, is_all_done, is_quiet, IsWhole}
use Rattle.graph_model.specs.Rates.{Balanced, balance_of, capacities_of}
use Rattle.machine_laws.specs.Stalls.{AreClosed}
use Rattle.flowgraph.specs.Agreeing.{graphs_agree}
use Rattle.flowgraph.specs.Flowgraph.{net_of}
use Rattle.plant.specs.Handed.{HandedState}
use Rattle.plant.specs.Plant.{PlantState}
use Rattle.threads.specs.declared.outcome.Outcome.{Outcome}
use Rattle.threads.specs.declared.outcome.Outcome.TheVariants.{Done, Stopped, Stalled}
use Rattle.threads.specs.declared.fault.RunFault.{RunFault}
use Rattle.threads.specs.declared.fault.RunFault.TheVariants.{Memory, Thread, Foreign}

-- the plant, however the run ended
abbrev pub plant_in : {B P : Type 0} → Outcome B P → PlantState B
plant_in (Done p) = p
plant_in (Stopped p) = p
plant_in (Stalled p) = p

-- what a plant was handed: its graph, and the tapes, closed marks and settings of its blocks
abbrev pub handed_of : {B : Type 0} → PlantState B → HandedState B
handed_of p = record { graph = p.graph; handed = p.state.handed }

-- a plant has what was handed in: an equal graph, and the same tapes, closed marks and settings. Its buffers are as
-- large as its rates ask, and no claim is in flight
pub record HasReturned {B : Type 0} (meaning : B → Meaning) (eq : B → B → Bool) (h : HandedState B) (p : PlantState B) :
    Type 0 where
  pub graph : graphs_agree eq p.graph h.graph ≡ true
  pub net : net_of meaning p.graph ≡ net_of meaning h.graph
  pub capacities : p.capacities ≡ capacities_of (net_of meaning p.graph) (balance_of (net_of meaning p.graph))
  pub handed : p.state.handed ≡ h.handed
  pub idle : is_idle p.state ≡ true

-- each block is done, and each sink holds its whole stream
pub record IsDone {B : Type 0} (meaning : B → Meaning) (p : PlantState B) : Type 0 where
  pub done : is_all_done p.state ≡ true
  pub whole : IsWhole (net_of meaning p.graph) p.state

-- some block is not done, and a stop was asked for
pub record IsStopped {B : Type 0} (asked : Bool) (p : PlantState B) : Type 0 where
  pub undone : is_all_done p.state ≡ false
  pub stopped : asked ≡ true

-- some block is not done, no stop was asked for, and no block can act. So the rates have no balance, or a tape is open
pub record IsStalled {B : Type 0} (meaning : B → Meaning) (asked : Bool) (p : PlantState B) : Type 0 where
  pub undone : is_all_done p.state ≡ false
  pub unasked : asked ≡ false
  pub quiet : is_quiet (net_of meaning p.graph) p.capacities p.state ≡ true
  pub unbalanced : (q : List ℕ) → balance_of (net_of meaning p.graph) ≡ Balanced q
      → AreClosed (net_of meaning p.graph) p.state → ⊥

-- a run of what was handed in ended so, where a stop was asked for or not
abbrev pub RunEndsIn : {B P : Type 0} → (B → Meaning) → (B → B → Bool) → HandedState B → Bool → Outcome B P → Type 0
RunEndsIn meaning eq h asked (Done p) = HasReturned meaning eq h p × IsDone meaning p
RunEndsIn meaning eq h asked (Stopped p) = HasReturned meaning eq h p × IsStopped asked p
RunEndsIn meaning eq h asked (Stalled p) = HasReturned meaning eq h p × IsStalled meaning asked p

-- a run ends by a stop where one was asked for, and by a stall where none was
abbrev pub IsAsAsked : {B P : Type 0} → Bool → Outcome B P → Type 0
IsAsAsked asked (Done p) = ⊤
IsAsAsked asked (Stopped p) = asked ≡ true
IsAsAsked asked (Stalled p) = asked ≡ false

-- a run that failed gives the plant back, with what was handed in
abbrev pub GivesBack : {B P : Type 0} → (B → Meaning) → (B → B → Bool) → HandedState B → RunFault B P → Type 0
GivesBack meaning eq h (Memory p) = HasReturned meaning eq h p
GivesBack meaning eq h (Thread p) = HasReturned meaning eq h p
GivesBack meaning eq h Foreign = ⊤

-- a fault tells of memory and of a thread only where that was lacking
abbrev pub IsSo : {B P : Type 0} → (memory thread : Bool) → RunFault B P → Type 0
IsSo memory thread (Memory p) = memory ≡ true
IsSo memory thread (Thread p) = thread ≡ true
IsSo memory thread Foreign = ⊤
