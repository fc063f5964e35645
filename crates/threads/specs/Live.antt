-- How a run ends that callers made calls of.
use Rattle.std.specs.Prelude.{⊤, ℕ, ◌≡◌, ◌<◌, List, length, get_or, [], Bool, true, false}
use Rattle.stream_model.specs.Meaning.{Meaning}
use Rattle.stream_model.specs.Machine.{is_all_done, is_quiet}
use Rattle.graph_model.specs.Rates.{Balanced, balance_of}
use Rattle.machine_laws.specs.Stalls.{AreClosed}
use Rattle.flowgraph.specs.Flowgraph.{Flowgraph, net_of}
use Rattle.plant.specs.Handed.{OpeningState}
use Rattle.plant.specs.Plant.{PlantState}
use Rattle.threads.specs.declared.outcome.Outcome.{Outcome}
use Rattle.threads.specs.declared.outcome.Outcome.TheVariants.{Done, Stopped, Stalled}
use Rattle.threads.specs.declared.fault.RunFault.{RunFault}
use Rattle.threads.specs.declared.fault.RunFault.TheVariants.{Memory, Thread, Foreign}
use Rattle.call_history.specs.Desk.{DeskState, opened_at}
use Rattle.call_history.specs.History.{Noted}
use Rattle.call_history.specs.Reached.{HasReached}
use Rattle.threads.specs.Outcomes.{IsDone}

-- some block is not done, and none can act. So the rates have no balance, or a tape is open
pub record IsStuck {B : Type 0} (meaning : B → Meaning) (p : PlantState B) : Type 0 where
  pub undone : is_all_done p.state ≡ false
  pub quiet : is_quiet (net_of meaning p.graph) p.capacities p.state ≡ true
  pub unbalanced : (q : List ℕ) → balance_of (net_of meaning p.graph) ≡ Balanced q
      → AreClosed (net_of meaning p.graph) p.state → ⊥

-- the run ended so
abbrev pub LiveRunEndsIn : {B P : Type 0} → (B → Meaning) → (B → B → Bool) → OpeningState B → List Noted → Outcome B P
    → Type 0
LiveRunEndsIn meaning eq o history (Done p) = HasReached meaning eq o history p × IsDone meaning p
LiveRunEndsIn meaning eq o history (Stopped p) = HasReached meaning eq o history p × (is_all_done p.state ≡ false)
LiveRunEndsIn meaning eq o history (Stalled p) = HasReached meaning eq o history p × IsStuck meaning p

-- a run that failed gives the plant back, where some history leads
abbrev pub GivesBackLive : {B P : Type 0} → (B → Meaning) → (B → B → Bool) → OpeningState B → RunFault B P → Type 0
GivesBackLive meaning eq o (Memory p) = (history : List Noted) × HasReached meaning eq o history p
GivesBackLive meaning eq o (Thread p) = (history : List Noted) × HasReached meaning eq o history p
GivesBackLive meaning eq o Foreign = ⊤

-- each caller that came back, with its log, is what a run at a desk of its own may make of the caller that was handed
-- in at its place
abbrev pub HaveReturned : {B C : Type 0} → (C → C → DeskState B → List Noted → Type 0) → Flowgraph B → List C → List C
    → List (List Noted) → Type 0
HaveReturned {B} {C} ran graph callers after logs = (n : ℕ) (c : C) → n < length callers
    → ran (get_or callers n c) (get_or after n c) (opened_at graph n) (get_or logs n [])
