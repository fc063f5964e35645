-- Tables of machines as they are given, and why no block was made of them.
use Rattle.std.specs.Prelude.{◌≡◌, ◌<◌, ◌≤◌, ◌*◌, ◌/◌, ℕ, ℤ, pos, ◌≤ℤ◌, ◌<ℤ◌, List, All, length}
use Rattle.stream_model.specs.declared.vocabulary.ItemType.TheVariants.{Byte}
use Rattle.stream_model.specs.Numbers.{AreItems}
use Rattle.stream_model.specs.Lists.{item, listed}
use Rattle.kind_model.specs.Codes.{row_of, state_after}
use Rattle.block_parameters.specs.declared.fault.Parameter.{Parameter}
use Rattle.block_parameters.specs.declared.fault.Parameter.TheVariants as parameters
use Rattle.block_parameters.specs.declared.fault.ParamFault.{ParamFault}
use Rattle.block_parameters.specs.declared.fault.ParamFault.TheVariants.{BadParameter, Memory}

-- how many symbols there may be
abbrev pub AreSymbols : ℕ → Type 0
AreSymbols symbols = (1 ≤ symbols) × (symbols ≤ 4096)

-- 1 to 4,096 next states in whole rows of symbols, each of them a state that has such a row
pub record AreStates (symbols : ℕ) (next : List ℤ) : Type 0 where
  pub some : 1 ≤ length next
  pub few : length next ≤ 4096
  pub whole : length next / symbols * symbols ≡ length next
  pub states : All (λ z. (pos 0 ≤ℤ z) × (z <ℤ pos (length next / symbols))) next

-- a byte for each next state
abbrev pub AreOutputs : List ℤ → List ℤ → Type 0
AreOutputs next output = (length output ≡ length next) × AreItems Byte output

-- the tables of a machine, and its first state
pub record AreTables (symbols : ℕ) (next output : List ℤ) (start : ℕ) : Type 0 where
  pub symbols_are : AreSymbols symbols
  pub states_are : AreStates symbols next
  pub outputs_are : AreOutputs next output
  pub begins : start < length next / symbols

-- the first parameter that is bad, in the order symbols, next, output, init
abbrev pub IsBadTable : ℕ → List ℤ → List ℤ → ℕ → Parameter → Type 0
IsBadTable symbols next output start parameters.Symbols = ¬ AreSymbols symbols
IsBadTable symbols next output start parameters.Next = AreSymbols symbols × (¬ AreStates symbols next)
IsBadTable symbols next output start parameters.Output = AreSymbols symbols × AreStates symbols next
    × (¬ AreOutputs next output)
IsBadTable symbols next output start parameters.Init = AreSymbols symbols × AreStates symbols next
    × AreOutputs next output × (length next / symbols ≤ start)
IsBadTable symbols next output start _ = ⊥

-- why no machine was made: the first bad parameter, or out of memory where none is bad
abbrev pub IsTableRefusal : ℕ → List ℤ → List ℤ → ℕ → ParamFault → Type 0
IsTableRefusal symbols next output start (BadParameter bad) = IsBadTable symbols next output start bad
IsTableRefusal symbols next output start Memory = AreTables symbols next output start

-- what a machine gives for the first items of a list, from a state on
abbrev pub given_from : ℕ → List ℕ → List ℤ → ℕ → List ℤ → ℕ → List ℤ
given_from symbols next output start x count = listed count (λ n. item output
    (row_of symbols (state_after symbols next start x n) (item x n)))
