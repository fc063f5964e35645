-- Going over the tables of an array, one after the other.
use Rattle.std.specs.Prelude.{◌⊎◌, ℕ, suc, Option, Some, None, Result, Ok, Err, IsOkAnd}
use Rattle.toml.specs.Data.{Items, no_items, item, Members, as_table}
use Rattle.kind_schema.specs.declared.fault.KeyFault.{KeyFault}
use Rattle.graph_file.specs.declared.fault.FilePlace.{FilePlace}
use Rattle.graph_file.specs.Refusals.{Refusal, at_table}

-- what follows what was read
abbrev pub then : {A B : Type 0} → Result A Refusal → (A → Result B Refusal) → Result B Refusal
then (Ok a) next = next a
then (Err refusal) next = Err refusal

-- what follows, where nothing is wrong with the table of a place
abbrev pub unless : {A : Type 0} → FilePlace → Option KeyFault → Result A Refusal → Result A Refusal
unless place None rest = rest
unless place (Some fault) rest = Err (at_table place fault)

module _ {A : Type 0} (step : ℕ → A → Members → Result A Refusal) where
  -- one step more; what is no table was refused before
  abbrev pub step_in : ℕ → A → Option Members → Result A Refusal
  step_in n a None = Ok a
  step_in n a (Some ms) = step n a ms

  -- a step for each table, counted from n
  abbrev pub steps : ℕ → A → Items → Result A Refusal
  steps n a no_items = Ok a
  steps n a (item d ds) = then (step_in n a (as_table d)) (λ b. steps (suc n) b ds)

-- a step takes memory
abbrev pub TakesIn : {A : Type 0} → (ℕ → A → Members → Type 0) → ℕ → A → Option Members → Type 0
TakesIn Takes n a None = ⊥
TakesIn Takes n a (Some ms) = Takes n a ms

module _ {A : Type 0} (step : ℕ → A → Members → Result A Refusal) (Takes : ℕ → A → Members → Type 0) where
  -- one of the steps that are reached takes memory
  abbrev pub StepsTake : ℕ → A → Items → Type 0
  StepsTake n a no_items = ⊥
  StepsTake n a (item d ds) = TakesIn Takes n a (as_table d) ⊎ IsOkAnd (step_in step n a (as_table d))
      (λ b. StepsTake (suc n) b ds)
