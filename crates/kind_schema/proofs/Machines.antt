-- What the maker of machines answers, by the tests of parameters.
use Rattle.std.proofs.Common.{◌≡◌, ℕ, ◌*◌, ◌/◌, ◌<◌, ◌≤◌, ℤ, pos, ◌≤ℤ◌, ◌<ℤ◌, List, length, take, All, true, Result, Ok, Err, Decides, arith, ap, subst, sym, ◌∙◌, inl, inr}
use Rattle.std.specs.Prelude.{nat_eq, is_ok}
use Rattle.std.specs.List.{list_all}
use Rattle.std.proofs.lemmas.Bool.{cases_lt}
use Rattle.std.proofs.lemmas.Bool.Decides.{Decides-and, Decides-like, Decides-ltb}
use Rattle.std.proofs.lemmas.List.{take_all, length-take-le}
use Rattle.stream_model.specs.declared.vocabulary.ItemType.TheVariants.{Byte}
use Rattle.stream_model.specs.Meaning.{Meaning}
use Rattle.kind_model.specs.Codes.{state_machine}
use Rattle.block_parameters.specs.declared.fault.Parameter.{Parameter}
use Rattle.block_parameters.specs.declared.fault.Parameter.TheVariants.{Symbols, Next, Output, Init}
use Rattle.block_parameters.specs.declared.fault.ParamFault.{ParamFault}
use Rattle.block_parameters.specs.declared.fault.ParamFault.TheVariants.{BadParameter, Memory}
use Rattle.rate_blocks.specs.Lengths.{unsigned}
use Rattle.code_blocks.specs.Machines.{AreStates, AreOutputs, AreTables, IsBadTable, IsTableRefusal}
use Rattle.kind_schema.specs.Ranges.{is_in, is_within, are_states, are_outputs, is_state}
use Rattle.kind_schema.specs.Kinds.{needs}
use Rattle.kind_schema.specs.Reading.{IsBad}
use Rattle.kind_schema.proofs.Tests.{within-decides, all_in-decides}
use Rattle.kind_schema.proofs.Makers.{goes, stops}
use Rattle.kind_schema.proofs.Lists.{all_places-decides}

pub eq-decides : (m n : ℕ) → Decides (nat_eq m n) (m ≡ n)
eq-decides m n = (λ h. grind arith, λ h. grind arith)

pub states-decides : (symbols : ℕ) (zs : List ℤ) → Decides (are_states symbols zs) (AreStates symbols zs)
states-decides symbols zs =
    let states = length zs / symbols in
    Decides-like (are_states symbols zs)
    (λ (p : ((1 ≤ length zs) × (length zs ≤ 4096)) × ((states * symbols ≡ length zs) × All (λ z. (pos 0 ≤ℤ z) × (z <ℤ pos states)) zs)).
    record { some = p.0.0; few = p.0.1; whole = p.1.0; states = p.1.1 })
    (λ (p : AreStates symbols zs). ((p.some, p.few), (p.whole, p.states)))
    (Decides-and (is_within 1 4096 (length zs)) _ (within-decides 1 4096 (length zs))
    (Decides-and (nat_eq (states * symbols) (length zs)) _ (eq-decides (states * symbols) (length zs)) (all_places-decides states zs)))

outputs-decides : (next zs : List ℤ) → Decides (are_outputs next zs) (AreOutputs next zs)
outputs-decides next zs =
    Decides-and (nat_eq (length zs) (length next)) (list_all (is_in Byte) zs) (eq-decides (length zs) (length next)) (all_in-decides Byte zs)

-- what a machine means, or the first of its parameters that is bad
abbrev pub machined : ℕ → List ℤ → List ℤ → ℕ → Result Meaning Parameter
machined symbols next output start =
    needs (is_within 1 4096 symbols) Symbols
    (needs (are_states symbols next) Next (needs (are_outputs next output) Output (needs (is_state symbols next start) Init (Ok (state_machine symbols (unsigned next) output start)))))

module _ (symbols : ℕ) (next output : List ℤ) (start : ℕ) where
  pub machine_good : AreTables symbols next output start → machined symbols next output start ≡ Ok (state_machine symbols (unsigned next) output start)
  machine_good are =
      goes (is_within 1 4096 symbols) Symbols _ (within-decides 1 4096 symbols) are.symbols_are
      ∙ goes (are_states symbols next) Next _ (states-decides symbols next) are.states_are
      ∙ goes (are_outputs next output) Output _ (outputs-decides next output) are.outputs_are
      ∙ goes (is_state symbols next start) Init _ (Decides-ltb start (length next / symbols)) are.begins

  first_bad : (bad : Parameter) → IsBadTable symbols next output start bad → machined symbols next output start ≡ Err bad
  first_bad Symbols h = stops (is_within 1 4096 symbols) Symbols _ (within-decides 1 4096 symbols) h
  first_bad Next h =
      goes (is_within 1 4096 symbols) Symbols _ (within-decides 1 4096 symbols) h.0
      ∙ stops (are_states symbols next) Next _ (states-decides symbols next) h.1
  first_bad Output h =
      goes (is_within 1 4096 symbols) Symbols _ (within-decides 1 4096 symbols) h.0
      ∙ goes (are_states symbols next) Next _ (states-decides symbols next) h.1
      ∙ stops (are_outputs next output) Output _ (outputs-decides next output) h.2
  first_bad Init h =
      goes (is_within 1 4096 symbols) Symbols _ (within-decides 1 4096 symbols) h.0
      ∙ goes (are_states symbols next) Next _ (states-decides symbols next) h.1
      ∙ goes (are_outputs next output) Output _ (outputs-decides next output) h.2
      ∙ stops (is_state symbols next start) Init _ (Decides-ltb start (length next / symbols)) (λ less. omega (arith, less, h.3))
  first_bad _ h = absurd h

  pub machine_bad : (fault : ParamFault) → IsTableRefusal symbols next output start fault → IsBad true (machined symbols next output start) fault
  machine_bad (BadParameter bad) h = first_bad bad h
  machine_bad Memory h = ap is_ok (machine_good h)

-- tables that are too long are bad, whatever the rest of them is
too_many : (symbols : ℕ) (zs : List ℤ) (rest : Result Meaning Parameter) → 4096 < length zs → needs (are_states symbols zs) Next rest ≡ Err Next
too_many symbols zs rest long = stops (are_states symbols zs) Next rest (states-decides symbols zs) (λ are. let few = are.few in absurd (omega arith))

too_many_outputs : (next zs : List ℤ) (rest : Result Meaning Parameter) → length next ≤ 4096 → 4096 < length zs → needs (are_outputs next zs) Output rest ≡ Err Output
too_many_outputs next zs rest few long = stops (are_outputs next zs) Output rest (outputs-decides next zs) (λ are. let same = are.0 in absurd (omega arith))

pub long_cut : (zs : List ℤ) → 4096 < length zs → 4096 < length (take 4097 zs)
long_cut zs h = let n = length-take-le 4097 zs (omega arith) in omega arith

-- so a machine is the same of tables that are cut behind 4,097 numbers
pub cut_machine : (symbols : ℕ) (next output : List ℤ) (start : ℕ) → machined symbols (take 4097 next) (take 4097 output) start ≡ machined symbols next output start
cut_machine symbols next output start =
    elim (cases_lt 4096 (length next)) [
      | inl long ↦
          ap (needs (is_within 1 4096 symbols) Symbols)
          (too_many symbols (take 4097 next) _ (long_cut next long) ∙ sym (too_many symbols next _ long))
      | inr short ↦
          let whole = take_all 4097 next (omega arith) in
          ap (λ zs. machined symbols zs (take 4097 output) start) whole
          ∙ elim (cases_lt 4096 (length output)) [
            | inl long ↦
                ap (λ rest. needs (is_within 1 4096 symbols) Symbols (needs (are_states symbols next) Next rest))
                (too_many_outputs next (take 4097 output) _ (omega arith) (long_cut output long) ∙ sym (too_many_outputs next output _ (omega arith) long))
            | inr few ↦ ap (λ zs. machined symbols next zs start) (take_all 4097 output (omega arith))
          ]
    ]

-- what a maker was given is what stands in the table
pub given :
    (P : ℕ → List ℤ → List ℤ → ℕ → Type 0) {symbols symbols' : ℕ} {next next' output output' : List ℤ} {start start' : ℕ} →
    symbols ≡ symbols' → next ≡ next' → output ≡ output' → start ≡ start' → P symbols next output start → P symbols' next' output' start'
given P {symbols} {symbols'} {next} {next'} {output} {output'} {start} {start'} s n o b h =
    subst (λ z. P z next' output' start') s (subst (λ z. P symbols z output' start') n (subst (λ z. P symbols next z start') o (subst (λ z. P symbols next output z) b h)))
