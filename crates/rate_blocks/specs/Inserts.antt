-- The parameters of a list that is put into a stream.
use Rattle.std.specs.Prelude.{◌≡◌, ◌<◌, ◌≤◌, ◌-◌, ◌⊎◌, ℕ, ℤ, List, length}
use Rattle.stream_model.specs.declared.vocabulary.ItemType.{ItemType}
use Rattle.stream_model.specs.Numbers.{AreItems}
use Rattle.kind_model.specs.Rates.{IsInsert}
use Rattle.block_parameters.specs.declared.fault.Parameter.{Parameter}
use Rattle.block_parameters.specs.declared.fault.Parameter.TheVariants as parameters
use Rattle.block_parameters.specs.declared.fault.ParamFault.{ParamFault}
use Rattle.block_parameters.specs.declared.fault.ParamFault.TheVariants.{BadParameter, Memory}

-- 1 to 256 items of the type
pub record AreValues (item : ItemType) (values : List ℤ) : Type 0 where
  pub some : 1 ≤ length values
  pub few : length values ≤ 256
  pub items : AreItems item values

-- the period has other items too, and not too many
abbrev pub IsPeriod : List ℤ → ℕ → Type 0
IsPeriod values period = (length values < period) × (period ≤ 1024)

-- the values end in the period
abbrev pub IsOffset : List ℤ → ℕ → ℕ → Type 0
IsOffset values period offset = offset ≤ period - length values

-- the first parameter that is bad, in the order values, period, offset
abbrev pub IsFirstBad : ItemType → List ℤ → ℕ → ℕ → Parameter → Type 0
IsFirstBad item values period offset bad =
    ((bad ≡ parameters.Values) × (¬ AreValues item values))
    ⊎ (((bad ≡ parameters.Period) × AreValues item values × (¬ IsPeriod values period))
    ⊎ ((bad ≡ parameters.Offset) × AreValues item values × IsPeriod values period × (¬ IsOffset values period offset)))

-- why no block was made: the first bad parameter, or out of memory where none is bad
abbrev pub IsRefusal : ItemType → List ℤ → ℕ → ℕ → ParamFault → Type 0
IsRefusal item values period offset (BadParameter bad) = IsFirstBad item values period offset bad
IsRefusal item values period offset Memory = IsInsert item values period offset
