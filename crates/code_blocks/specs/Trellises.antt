-- Tables of a trellis as they are given, and why no block was made of them.
use Rattle.std.specs.Prelude.{◌≡◌, ◌<◌, ◌≤◌, ◌*◌, ◌/◌, ℕ, ℤ, pos, ◌≤ℤ◌, ◌<ℤ◌, List, All, Option, length, map, unsigned_abs}
use Rattle.std.specs.Option.{ForSome}
use Rattle.kind_model.specs.Trellis as model
use Rattle.block_parameters.specs.declared.fault.Parameter.{Parameter}
use Rattle.block_parameters.specs.declared.fault.Parameter.TheVariants as parameters
use Rattle.block_parameters.specs.declared.fault.ParamFault.{ParamFault}
use Rattle.block_parameters.specs.declared.fault.ParamFault.TheVariants.{BadParameter, Memory}
use Rattle.viterbi_decoder.specs.Found.{trellis}
use Rattle.code_blocks.specs.Machines.{AreStates}
use Rattle.code_blocks.specs.declared.viterbi.Trellis.{Trellis}

-- the trellis of these tables
abbrev pub trellis_in : Trellis → model.Trellis
trellis_in t = trellis t.symbols (map unsigned_abs t.next.now) (map unsigned_abs t.output.now) t.outputs t.steps t.start
    t.end

-- how many symbols there may be, each a byte
abbrev pub AreFewSymbols : ℕ → Type 0
AreFewSymbols symbols = (1 ≤ symbols) × (symbols ≤ 256)

-- the next states of a machine with at most 1,024 states
abbrev pub AreFewStates : ℕ → List ℤ → Type 0
AreFewStates symbols next = AreStates symbols next × (length next / symbols ≤ 1024)

-- how many outputs there may be
abbrev pub AreFewOutputs : ℕ → Type 0
AreFewOutputs outputs = (1 ≤ outputs) × (outputs ≤ 1024)

-- so many numbers, each from 0 to below a bound
abbrev pub AreNumbersBelow : ℕ → ℕ → List ℤ → Type 0
AreNumbersBelow bound count numbers = (length numbers ≡ count) × All (λ z. (pos 0 ≤ℤ z) × (z <ℤ pos bound)) numbers

-- how many steps a block may have, of so many outputs and states
pub record AreSteps (steps outputs states : ℕ) : Type 0 where
  pub some : 1 ≤ steps
  pub few_items : steps * outputs ≤ 1024
  pub few_choices : steps * states ≤ 16384

-- one of so many states, where it is known
abbrev pub IsState : Option ℕ → ℕ → Type 0
IsState known states = ForSome known (λ s. s < states)

-- the tables and the blocks that there may be
pub record AreTrellisTables (t : Trellis) : Type 0 where
  pub symbols_are : AreFewSymbols t.symbols
  pub states_are : AreFewStates t.symbols t.next.now
  pub outputs_are : AreFewOutputs t.outputs
  pub output_is : AreNumbersBelow t.outputs (length t.next.now) t.output.now
  pub steps_are : AreSteps t.steps t.outputs (length t.next.now / t.symbols)
  pub begins : IsState t.start (length t.next.now / t.symbols)
  pub ends : IsState t.end (length t.next.now / t.symbols)

-- the first parameter that is bad, in the order symbols, next, outputs, output, steps, start, end
abbrev pub IsBadTrellis : Trellis → Parameter → Type 0
IsBadTrellis t parameters.Symbols = ¬ AreFewSymbols t.symbols
IsBadTrellis t parameters.Next = AreFewSymbols t.symbols × (¬ AreFewStates t.symbols t.next.now)
IsBadTrellis t parameters.Outputs = AreFewSymbols t.symbols × AreFewStates t.symbols t.next.now
    × (¬ AreFewOutputs t.outputs)
IsBadTrellis t parameters.Output =
    AreFewSymbols t.symbols × AreFewStates t.symbols t.next.now × AreFewOutputs t.outputs
    × (¬ AreNumbersBelow t.outputs (length t.next.now) t.output.now)
IsBadTrellis t parameters.Steps =
    AreFewSymbols t.symbols × AreFewStates t.symbols t.next.now × AreFewOutputs t.outputs
    × AreNumbersBelow t.outputs (length t.next.now) t.output.now
    × (¬ AreSteps t.steps t.outputs (length t.next.now / t.symbols))
IsBadTrellis t parameters.Start =
    AreFewSymbols t.symbols × AreFewStates t.symbols t.next.now × AreFewOutputs t.outputs
    × AreNumbersBelow t.outputs (length t.next.now) t.output.now
    × AreSteps t.steps t.outputs (length t.next.now / t.symbols) × (¬ IsState t.start (length t.next.now / t.symbols))
IsBadTrellis t parameters.End =
    AreFewSymbols t.symbols × AreFewStates t.symbols t.next.now × AreFewOutputs t.outputs
    × AreNumbersBelow t.outputs (length t.next.now) t.output.now
    × AreSteps t.steps t.outputs (length t.next.now / t.symbols) × IsState t.start (length t.next.now / t.symbols)
    × (¬ IsState t.end (length t.next.now / t.symbols))
IsBadTrellis t _ = ⊥

-- why no block was made: the first bad parameter, or out of memory where none is bad
abbrev pub IsTrellisRefusal : Trellis → ParamFault → Type 0
IsTrellisRefusal t (BadParameter bad) = IsBadTrellis t bad
IsTrellisRefusal t Memory = AreTrellisTables t
