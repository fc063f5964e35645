-- What the maker of trellises answers, by the tests of parameters.
use Rattle.std.proofs.Common.{◌≡◌, ℕ, ◌*◌, ◌/◌, ◌<◌, ◌≤◌, ℤ, List, length, take, true, Option, Some, None, Result, Ok, Err, Decides, refl, arith, ap, subst, sym, ◌∙◌, inl, inr}
use Rattle.std.specs.Prelude.{nat_eq, nat_le, nat_lt, is_ok}
use Rattle.std.proofs.lemmas.Bool.{cases_lt}
use Rattle.std.proofs.lemmas.Bool.Decides.{Decides-and, Decides-like, Decides-ltb}
use Rattle.std.proofs.lemmas.List.{take_all}
use Rattle.stream_model.specs.declared.vocabulary.ItemType.{ItemType}
use Rattle.stream_model.specs.Meaning.{Meaning}
use Rattle.kind_model.specs.Trellis.{viterbi}
use Rattle.block_parameters.specs.declared.fault.Parameter.{Parameter}
use Rattle.block_parameters.specs.declared.fault.Parameter.TheVariants.{Symbols, Next, Outputs, Output, Steps, Start, End}
use Rattle.block_parameters.specs.declared.fault.ParamFault.{ParamFault}
use Rattle.block_parameters.specs.declared.fault.ParamFault.TheVariants.{BadParameter, Memory}
use Rattle.rate_blocks.specs.Lengths.{unsigned}
use Rattle.viterbi_decoder.specs.Found.{trellis}
use Rattle.code_blocks.specs.declared.viterbi.Trellis.{Trellis}
use Rattle.code_blocks.specs.Trellises.{AreFewStates, AreNumbersBelow, AreSteps, IsState, AreTrellisTables, IsBadTrellis, IsTrellisRefusal, trellis_in}
use Rattle.kind_schema.specs.Ranges.{is_within, are_states, are_few_states, are_numbers_below, are_steps, is_known_state}
use Rattle.kind_schema.specs.Kinds.{needs}
use Rattle.kind_schema.specs.Reading.{IsBad}
use Rattle.kind_schema.proofs.Tests.{le-decides, within-decides}
use Rattle.kind_schema.proofs.Makers.{goes, stops}
use Rattle.kind_schema.proofs.Lists.{all_places-decides}
use Rattle.kind_schema.proofs.Machines.{eq-decides, states-decides, long_cut, given}

few_states-decides : (symbols : ℕ) (zs : List ℤ) → Decides (are_few_states symbols zs) (AreFewStates symbols zs)
few_states-decides symbols zs = Decides-and (are_states symbols zs) (nat_le (length zs / symbols) 1024) (states-decides symbols zs) (le-decides (length zs / symbols) 1024)

below-decides : (outputs : ℕ) (next zs : List ℤ) → Decides (are_numbers_below outputs next zs) (AreNumbersBelow outputs (length next) zs)
below-decides outputs next zs = Decides-and (nat_eq (length zs) (length next)) _ (eq-decides (length zs) (length next)) (all_places-decides outputs zs)

steps-decides : (steps outputs states : ℕ) → Decides (are_steps steps outputs states) (AreSteps steps outputs states)
steps-decides steps outputs states =
    Decides-like (are_steps steps outputs states)
    (λ (p : (1 ≤ steps) × ((steps * outputs ≤ 1024) × (steps * states ≤ 16384))). record { some = p.0; few_items = p.1.0; few_choices = p.1.1 })
    (λ (p : AreSteps steps outputs states). (p.some, (p.few_items, p.few_choices)))
    (Decides-and (nat_le 1 steps) _ (le-decides 1 steps)
    (Decides-and (nat_le (steps * outputs) 1024) (nat_le (steps * states) 16384) (le-decides (steps * outputs) 1024) (le-decides (steps * states) 16384)))

known-decides : (symbols : ℕ) (next : List ℤ) (known : Option ℕ) → Decides (is_known_state symbols next known) (IsState known (length next / symbols))
known-decides symbols next None = (λ e s h. absurd (cc), λ h. refl)
known-decides symbols next (Some k) =
    Decides-like (nat_lt k (length next / symbols)) (λ (p : k < length next / symbols) s e. subst (λ n. n < length next / symbols) (same k s e) p)
    (λ (h : IsState (Some k) (length next / symbols)). h k refl) (Decides-ltb k (length next / symbols))
  where
    same : (k s : ℕ) → Some k ≡ Some s → k ≡ s
    same k s e = cc

-- what a trellis means, or the first of its parameters that is bad
abbrev pub decoded_by : ItemType → ℕ → List ℤ → ℕ → List ℤ → ℕ → Option ℕ → Option ℕ → Result Meaning Parameter
decoded_by item symbols next outputs output steps begin last =
    needs (is_within 1 256 symbols) Symbols
    (needs (are_few_states symbols next) Next
    (needs (is_within 1 1024 outputs) Outputs
    (needs (are_numbers_below outputs next output) Output
    (needs (are_steps steps outputs (length next / symbols)) Steps
    (needs (is_known_state symbols next begin) Start
    (needs (is_known_state symbols next last) End (Ok (viterbi item (trellis symbols (unsigned next) (unsigned output) outputs steps begin last)))))))))

abbrev pub decoded_of : ItemType → Trellis → Result Meaning Parameter
decoded_of item t = decoded_by item t.symbols t.next.now t.outputs t.output.now t.steps t.start t.end

module _ (item : ItemType) (t : Trellis) where
  pub trellis_good : AreTrellisTables t → decoded_of item t ≡ Ok (viterbi item (trellis_in t))
  trellis_good are =
      goes (is_within 1 256 t.symbols) Symbols _ (within-decides 1 256 t.symbols) are.symbols_are
      ∙ goes (are_few_states t.symbols t.next.now) Next _ (few_states-decides t.symbols t.next.now) are.states_are
      ∙ goes (is_within 1 1024 t.outputs) Outputs _ (within-decides 1 1024 t.outputs) are.outputs_are
      ∙ goes (are_numbers_below t.outputs t.next.now t.output.now) Output _ (below-decides t.outputs t.next.now t.output.now) are.output_is
      ∙ goes (are_steps t.steps t.outputs (length t.next.now / t.symbols)) Steps _ (steps-decides t.steps t.outputs (length t.next.now / t.symbols)) are.steps_are
      ∙ goes (is_known_state t.symbols t.next.now t.start) Start _ (known-decides t.symbols t.next.now t.start) are.begins
      ∙ goes (is_known_state t.symbols t.next.now t.end) End _ (known-decides t.symbols t.next.now t.end) are.ends

  first_bad : (bad : Parameter) → IsBadTrellis t bad → decoded_of item t ≡ Err bad
  first_bad Symbols h = stops (is_within 1 256 t.symbols) Symbols _ (within-decides 1 256 t.symbols) h
  first_bad Next h =
      goes (is_within 1 256 t.symbols) Symbols _ (within-decides 1 256 t.symbols) h.0
      ∙ stops (are_few_states t.symbols t.next.now) Next _ (few_states-decides t.symbols t.next.now) h.1
  first_bad Outputs h =
      goes (is_within 1 256 t.symbols) Symbols _ (within-decides 1 256 t.symbols) h.0
      ∙ goes (are_few_states t.symbols t.next.now) Next _ (few_states-decides t.symbols t.next.now) h.1
      ∙ stops (is_within 1 1024 t.outputs) Outputs _ (within-decides 1 1024 t.outputs) h.2
  first_bad Output h =
      goes (is_within 1 256 t.symbols) Symbols _ (within-decides 1 256 t.symbols) h.0
      ∙ goes (are_few_states t.symbols t.next.now) Next _ (few_states-decides t.symbols t.next.now) h.1
      ∙ goes (is_within 1 1024 t.outputs) Outputs _ (within-decides 1 1024 t.outputs) h.2
      ∙ stops (are_numbers_below t.outputs t.next.now t.output.now) Output _ (below-decides t.outputs t.next.now t.output.now) h.3
  first_bad Steps h =
      goes (is_within 1 256 t.symbols) Symbols _ (within-decides 1 256 t.symbols) h.0
      ∙ goes (are_few_states t.symbols t.next.now) Next _ (few_states-decides t.symbols t.next.now) h.1
      ∙ goes (is_within 1 1024 t.outputs) Outputs _ (within-decides 1 1024 t.outputs) h.2
      ∙ goes (are_numbers_below t.outputs t.next.now t.output.now) Output _ (below-decides t.outputs t.next.now t.output.now) h.3
      ∙ stops (are_steps t.steps t.outputs (length t.next.now / t.symbols)) Steps _ (steps-decides t.steps t.outputs (length t.next.now / t.symbols)) h.4
  first_bad Start h =
      goes (is_within 1 256 t.symbols) Symbols _ (within-decides 1 256 t.symbols) h.0
      ∙ goes (are_few_states t.symbols t.next.now) Next _ (few_states-decides t.symbols t.next.now) h.1
      ∙ goes (is_within 1 1024 t.outputs) Outputs _ (within-decides 1 1024 t.outputs) h.2
      ∙ goes (are_numbers_below t.outputs t.next.now t.output.now) Output _ (below-decides t.outputs t.next.now t.output.now) h.3
      ∙ goes (are_steps t.steps t.outputs (length t.next.now / t.symbols)) Steps _ (steps-decides t.steps t.outputs (length t.next.now / t.symbols)) h.4
      ∙ stops (is_known_state t.symbols t.next.now t.start) Start _ (known-decides t.symbols t.next.now t.start) h.5
  first_bad End h =
      goes (is_within 1 256 t.symbols) Symbols _ (within-decides 1 256 t.symbols) h.0
      ∙ goes (are_few_states t.symbols t.next.now) Next _ (few_states-decides t.symbols t.next.now) h.1
      ∙ goes (is_within 1 1024 t.outputs) Outputs _ (within-decides 1 1024 t.outputs) h.2
      ∙ goes (are_numbers_below t.outputs t.next.now t.output.now) Output _ (below-decides t.outputs t.next.now t.output.now) h.3
      ∙ goes (are_steps t.steps t.outputs (length t.next.now / t.symbols)) Steps _ (steps-decides t.steps t.outputs (length t.next.now / t.symbols)) h.4
      ∙ goes (is_known_state t.symbols t.next.now t.start) Start _ (known-decides t.symbols t.next.now t.start) h.5
      ∙ stops (is_known_state t.symbols t.next.now t.end) End _ (known-decides t.symbols t.next.now t.end) h.6
  first_bad _ h = absurd h

  pub trellis_bad : (fault : ParamFault) → IsTrellisRefusal t fault → IsBad true (decoded_of item t) fault
  trellis_bad (BadParameter bad) h = first_bad bad h
  trellis_bad Memory h = ap is_ok (trellis_good h)

-- tables that are too long are bad, whatever the rest of them is
too_many : (symbols : ℕ) (zs : List ℤ) (rest : Result Meaning Parameter) → 4096 < length zs → needs (are_few_states symbols zs) Next rest ≡ Err Next
too_many symbols zs rest long = stops (are_few_states symbols zs) Next rest (few_states-decides symbols zs) (λ are. let few = are.0.few in absurd (omega arith))

too_many_outputs : (outputs : ℕ) (next zs : List ℤ) (rest : Result Meaning Parameter) → length next ≤ 4096 → 4096 < length zs → needs (are_numbers_below outputs next zs) Output rest ≡ Err Output
too_many_outputs outputs next zs rest few long = stops (are_numbers_below outputs next zs) Output rest (below-decides outputs next zs) (λ are. let same = are.0 in absurd (omega arith))

-- so a trellis is the same of tables that are cut behind 4,097 numbers
pub cut_trellis :
    (item : ItemType) (symbols : ℕ) (next : List ℤ) (outputs : ℕ) (output : List ℤ) (steps : ℕ) (begin last : Option ℕ) →
    decoded_by item symbols (take 4097 next) outputs (take 4097 output) steps begin last ≡ decoded_by item symbols next outputs output steps begin last
cut_trellis item symbols next outputs output steps begin last =
    elim (cases_lt 4096 (length next)) [
      | inl long ↦
          ap (needs (is_within 1 256 symbols) Symbols)
          (too_many symbols (take 4097 next) _ (long_cut next long) ∙ sym (too_many symbols next _ long))
      | inr short ↦
          let whole = take_all 4097 next (omega arith) in
          ap (λ zs. decoded_by item symbols zs outputs (take 4097 output) steps begin last) whole
          ∙ elim (cases_lt 4096 (length output)) [
            | inl long ↦
                ap (λ rest. needs (is_within 1 256 symbols) Symbols (needs (are_few_states symbols next) Next (needs (is_within 1 1024 outputs) Outputs rest)))
                (too_many_outputs outputs next (take 4097 output) _ (omega arith) (long_cut output long) ∙ sym (too_many_outputs outputs next output _ (omega arith) long))
            | inr few ↦ ap (λ zs. decoded_by item symbols next outputs zs steps begin last) (take_all 4097 output (omega arith))
          ]
    ]

-- what a maker was given is what stands in the table
pub described :
    (P : ℕ → List ℤ → ℕ → List ℤ → ℕ → Option ℕ → Option ℕ → Type 0) {symbols symbols' : ℕ} {next next' : List ℤ} {outputs outputs' : ℕ} {output output' : List ℤ}
    {steps steps' : ℕ} {begin begin' last last' : Option ℕ} →
    symbols ≡ symbols' → next ≡ next' → outputs ≡ outputs' → output ≡ output' → steps ≡ steps' → begin ≡ begin' → last ≡ last' →
    P symbols next outputs output steps begin last → P symbols' next' outputs' output' steps' begin' last'
described P {symbols} {symbols'} {next} {next'} {outputs} {outputs'} {output} {output'} {steps} {steps'} {begin} {begin'} {last} {last'} s n os o k b l h =
    subst (λ z. P symbols' next' outputs' output' steps' begin' z) l
    (given (λ symbols next output steps. P symbols next outputs' output steps begin' last) s n o k
    (subst (λ z. P symbols next z output steps begin' last) os (subst (λ z. P symbols next outputs output steps z last) b h)))
