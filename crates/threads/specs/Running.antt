-- What a contract sees of a run.
use Rattle.std.specs.Prelude.{ℕ, Bool, Option}
use Rattle.plant.specs.Handed.{HandedState}

-- what was handed in, whether a stop was asked for, how many firings a worker claims at most, and the gate that is told
-- of turns
pub record RunState (B G : Type 0) : Type 0 where
  pub handed : HandedState B
  pub asked : Bool
  pub most : ℕ
  pub gate : Option G
