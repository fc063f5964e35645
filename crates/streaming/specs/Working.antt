-- Work that is done beside the caller: claims, and what comes of them, in any order.
use Rattle.std.specs.Prelude.{ℕ, ◌≡◌, List, Bool, true, false, nat_le}
use Rattle.std.specs.List.{list_all}
use Rattle.stream_model.specs.Meaning.{Meaning}
use Rattle.stream_model.specs.Network.{Network, State}
use Rattle.stream_model.specs.Machine.{Capacities, Call, Claim, Commit, Abandon, run_of}
use Rattle.flowgraph.specs.Flowgraph.{net_of}
use Rattle.plant.specs.declared.parts.Parts.{Parts}
use Rattle.plant.specs.Plant.{IsRight, PlantState, plant_of, spans_in}

-- a claim of at most max firings, or work that is brought back or given up: all that moves blocks on, and nothing that
-- hands them something
abbrev pub is_work : (max : ℕ) → Call → Bool
is_work max (Claim b most) = nat_le most max
is_work max (Commit own job) = true
is_work max (Abandon own job) = true
is_work max _ = false

-- such calls alone led from one state to the other
abbrev pub WorkLeads : Network → Capacities → (max : ℕ) → State → State → Type 0
WorkLeads net caps max old new = (calls : List Call) × (list_all (is_work max) calls ≡ true)
    × (new ≡ (run_of net caps old calls).1)

-- they led a plant on, of which only the state is another
pub record HasWorked {B : Type 0} (meaning : B → Meaning) (max : ℕ) (old new : PlantState B) : Type 0 where
  pub same : new ≡ record old { state = new.state }
  pub work : WorkLeads (net_of meaning old.graph) old.capacities max old.state new.state

-- the parts of a plant were led on by such calls: they are right, and keep what they kept
pub record IsLedOn {B P : Type 0} (meaning : B → Meaning) (max : ℕ) (old new : Parts B P) : Type 0 where
  pub right : IsRight meaning new
  pub spans : spans_in new ≡ spans_in old
  pub worked : HasWorked meaning max (plant_of old) (plant_of new)
