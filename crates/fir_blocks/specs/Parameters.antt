-- The parameters of the filters.
use Rattle.std.specs.Prelude.{◌≡◌, ◌≢◌, ◌≤◌, ◌⊎◌, ℕ, ℤ, List, length}
use Rattle.stream_model.specs.declared.vocabulary.ItemType.{ItemType}
use Rattle.stream_model.specs.declared.vocabulary.ItemType.TheVariants as types
use Rattle.stream_model.specs.Numbers.{AreItems}
use Rattle.block_parameters.specs.declared.fault.Parameter.{Parameter}
use Rattle.block_parameters.specs.declared.fault.Parameter.TheVariants as parameters
use Rattle.block_parameters.specs.declared.fault.ParamFault.{ParamFault}
use Rattle.block_parameters.specs.declared.fault.ParamFault.TheVariants.{BadParameter, Memory}

-- the taps of a filter: 1 to 256 short numbers
pub record AreTaps (taps : List ℤ) : Type 0 where
  pub some : 1 ≤ length taps
  pub few : length taps ≤ 256
  pub short : AreItems types.Short taps

-- a decimation or an interpolation
abbrev pub IsRate : ℕ → Type 0
IsRate rate = (1 ≤ rate) × (rate ≤ 1024)

abbrev pub IsShift : ℕ → Type 0
IsShift shift = shift ≤ 31

-- what a filter may be made with
pub record AreParameters (item : ItemType) (taps : List ℤ) (rate shift : ℕ) : Type 0 where
  pub item_type : item ≢ types.Byte
  pub taps_are : AreTaps taps
  pub rate_is : IsRate rate
  pub shift_is : IsShift shift

-- the first parameter that is bad, in the order type, taps, rate, shift, where the rate goes by the name `named`
abbrev pub IsFirstBad : Parameter → ItemType → List ℤ → ℕ → ℕ → Parameter → Type 0
IsFirstBad named item taps rate shift bad =
    ((bad ≡ parameters.ItemType) × (item ≡ types.Byte))
    ⊎ (((bad ≡ parameters.Taps) × (item ≢ types.Byte) × (¬ AreTaps taps))
    ⊎ (((bad ≡ named) × (item ≢ types.Byte) × AreTaps taps × (¬ IsRate rate))
    ⊎ ((bad ≡ parameters.Shift) × (item ≢ types.Byte) × AreTaps taps × IsRate rate × (¬ IsShift shift))))

-- why no filter was made: the first bad parameter, or out of memory where none is bad
abbrev pub IsRefusal : Parameter → ItemType → List ℤ → ℕ → ℕ → ParamFault → Type 0
IsRefusal named item taps rate shift (BadParameter bad) = IsFirstBad named item taps rate shift bad
IsRefusal named item taps rate shift Memory = AreParameters item taps rate shift
