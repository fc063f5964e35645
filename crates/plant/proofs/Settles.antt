-- The plant after steps of some blocks, and after rounds of all: only its state is another.
use Rattle.std.proofs.Common.{◌≡◌, ℕ, ◌<◌, ◌+◌, Bool, true, false, List, length, get_or, ap, sym, ◌∙◌, subst}
use Rattle.stream_model.specs.Meaning.{Meaning}
use Rattle.stream_model.specs.Network.{Network, State}
use Rattle.stream_model.specs.Machine.{Capacities, Claim, step_of, is_idle, is_all_done}
use Rattle.stream_laws.specs.CanRun.{CanRun}
use Rattle.machine_laws.specs.Sound.{Sound}
use Rattle.machine_laws.specs.Steps.{moves_on, steps_left}
use Rattle.flowgraph.specs.declared.parts.BlockId.{BlockId}
use Rattle.flowgraph.specs.Flowgraph.{net_of}
use Rattle.plant.specs.Plant.{PlantState}
use Rattle.plant.specs.declared.answers.Settled.TheVariants.{Quiet}
use Rattle.plant.specs.Settling.{StepsLead, HasMoved, HasSettled}
use Rattle.plant.proofs.Rounds.{AreStepped, leads-further, stepped-on, stepped-still}

-- only the state is another
abbrev pub IsSame : {B : Type 0} → PlantState B → PlantState B → Type 0
IsSame old new = new ≡ record old { state = new.state }

-- the first k blocks of an order are stepped
pub record IsStepped {B : Type 0} (meaning : B → Meaning) (max : ℕ) (order : List BlockId) (old now : PlantState B) (k : ℕ) (moved : Bool) : Type 0 where
  pub same : IsSame old now
  pub states : AreStepped (net_of meaning old.graph) old.capacities max order old.state now.state k moved

-- rounds of all blocks led on
pub record IsLed {B : Type 0} (meaning : B → Meaning) (max : ℕ) (old now : PlantState B) : Type 0 where
  pub same : IsSame old now
  pub lead : StepsLead (net_of meaning old.graph) old.capacities max old.state now.state
  pub idle : is_idle now.state ≡ true

module _ {B : Type 0} (meaning : B → Meaning) (max : ℕ) (old : PlantState B) where
  abbrev net : PlantState B → Network
  net p = net_of meaning p.graph

  module _ (now : PlantState B) (same : IsSame old now) where
    -- what holds of the graph and the capacities still does
    as_old : (P : Network → Capacities → Type 0) → P (net now) now.capacities → P (net old) old.capacities
    as_old P h = subst (λ (p : PlantState B). P (net p) p.capacities) same h

    same_on : (new : PlantState B) → IsSame now new → IsSame old new
    same_on new e = subst (λ (p : PlantState B). new ≡ record p { state = new.state }) same e

    -- the next block is stepped too
    module _ (order : List BlockId) (k : ℕ) (block : BlockId) (here : k < length order) (is_there : get_or order k block ≡ block) (moved : Bool) (states : AreStepped (net old) old.capacities max order old.state now.state k moved) (can : CanRun (net old))
        (sound : Sound (net now) now.capacities now.state) (some : 0 < max) (in' : block.0 < length (net old).nodes) (new : PlantState B) (step : new ≡ record now { state = (step_of (net now) now.capacities now.state block.0 max).1 }) where
      next_is : new ≡ record old { state = (step_of (net old) old.capacities now.state block.0 max).1 }
      next_is = subst (λ (p : PlantState B). new ≡ record p { state = (step_of (net p) p.capacities now.state block.0 max).1 }) same step

      state_is : new.state ≡ (step_of (net old) old.capacities now.state block.0 max).1
      state_is = ap (λ (p : PlantState B). p.state) next_is

      next_same : IsSame old new
      next_same = next_is ∙ ap (λ (s : State). record old { state = s }) (sym state_is)

      sound_old : Sound (net old) old.capacities now.state
      sound_old = as_old (λ n caps. Sound n caps now.state) sound

      pub is_stepped_on : moves_on now.state (Claim block.0 max) (step_of (net now) now.capacities now.state block.0 max).0 ≡ true → IsStepped meaning max order old new (k + 1) true
      is_stepped_on on = record {
        same = next_same;
        states = subst (λ s. AreStepped (net old) old.capacities max order old.state s (k + 1) true) (sym state_is)
            (stepped-on (net old) old.capacities max order old.state can now.state sound_old some k block here is_there in' moved states (as_old (λ n caps. moves_on now.state (Claim block.0 max) (step_of n caps now.state block.0 max).0 ≡ true) on));
      }

      pub is_stepped_still : moves_on now.state (Claim block.0 max) (step_of (net now) now.capacities now.state block.0 max).0 ≡ false → IsStepped meaning max order old new (k + 1) moved
      is_stepped_still off = record {
        same = next_same;
        states = subst (λ s. AreStepped (net old) old.capacities max order old.state s (k + 1) moved) (sym state_is)
            (stepped-still (net old) old.capacities max order old.state can now.state sound_old some k block here is_there in' moved states (as_old (λ n caps. moves_on now.state (Claim block.0 max) (step_of n caps now.state block.0 max).0 ≡ false) off));
      }

  -- a round more
  module _ (now : PlantState B) (led : IsLed meaning max old now) (new : PlantState B) (same : IsSame now new) where
    pub is_led_on : StepsLead (net now) now.capacities max now.state new.state → is_idle new.state ≡ true → IsLed meaning max old new
    is_led_on lead idle = record {
      same = same_on now led.same new same;
      lead = leads-further (net old) old.capacities max old.state now.state new.state led.lead (as_old now led.same (λ n caps. StepsLead n caps max now.state new.state) lead);
      idle = idle;
    }

-- what a round says of the plant before it and after it
module _ {B : Type 0} (meaning : B → Meaning) (old new : PlantState B) (same : IsSame old new) where
  pub fewer_left : (moved : Bool) → moved ≡ true → HasMoved (net_of meaning old.graph) old.capacities old.state new.state moved → steps_left (net_of meaning new.graph) new.state < steps_left (net_of meaning old.graph) old.state
  fewer_left moved e has =
      subst (λ (p : PlantState B). steps_left (net_of meaning p.graph) new.state < steps_left (net_of meaning old.graph) old.state) (sym same)
      (subst (λ m. HasMoved (net_of meaning old.graph) old.capacities old.state new.state m) e has)

  pub settled_quiet : (moved : Bool) → moved ≡ false → HasMoved (net_of meaning old.graph) old.capacities old.state new.state moved → is_all_done new.state ≡ false → HasSettled (net_of meaning new.graph) new.capacities new.state Quiet
  settled_quiet moved e has left = (
    left,
    subst (λ (p : PlantState B). HasMoved (net_of meaning p.graph) p.capacities old.state new.state false) (sym same) (subst (λ m. HasMoved (net_of meaning old.graph) old.capacities old.state new.state m) e has),
  )
