-- What comes of a run in threads.
use Rattle.std.specs.Prelude.{⊤, ◌≡◌, List, [], ◌∷◌, Bool, Result, Ok, Err}
use Rattle.stream_model.specs.Meaning.{Meaning}
use Rattle.plant.specs.Handed.{OpeningState}
use Rattle.plant.specs.Plant.{PlantState}
use Rattle.call_history.specs.History.{Noted}
use Rattle.call_history.specs.Logs.{AreLogs}
use Rattle.call_history.specs.Reached.{HasReached}
use Rattle.flow_core.specs.declared.fault.Fault.TheVariants.{File, Script}
use Rattle.flow_core.specs.declared.script.ScriptFault.{ScriptFault}
use Rattle.flow_runs.specs.declared.fault.ServeFault.{ServeFault}
use Rattle.flow_runs.specs.declared.fault.ServeFault.TheVariants.{Command, Run}

-- a plant came where a history of calls leads from its opening, of which these were made at the one desk, and none at
-- another
pub record HasCome {B : Type 0} (meaning : B → Meaning) (eq : B → B → Bool) (opening : OpeningState B)
    (log : List Noted) (p : PlantState B) : Type 0 where
  pub history : List Noted
  pub logs : AreLogs (log ∷ []) history
  pub reached : HasReached meaning eq opening history p

-- a run came to no end whose lines ended so: by the fault that stopped them, or by one of its threads
abbrev pub IsCause : Result (Unit {0}) ScriptFault → ServeFault → Type 0
IsCause ended (Command (File fault)) = ⊥
IsCause ended (Command (Script fault)) = ended ≡ Err fault
IsCause ended (Run fault) = ⊤

-- a run whose lines ended so came to this: to rest only where no fault stopped them
abbrev pub IsEndOf : {R : Type 0} → Result (Unit {0}) ScriptFault → Result R ServeFault → Type 0
IsEndOf ended (Ok r) = ended ≡ Ok tt
IsEndOf ended (Err fault) = IsCause ended fault
