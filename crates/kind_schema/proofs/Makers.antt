-- What the makers answer, by the tests of parameters.
use Rattle.std.proofs.Common.{◌≡◌, ◌≢◌, ◌⊎◌, inl, inr, ℕ, ◌<◌, ℤ, Bool, true, false, List, length, take, Result, Ok, Err, Decides, arith, refl, ap, sym, ◌∙◌, subst}
use Rattle.std.specs.Prelude.{is_ok}
use Rattle.std.proofs.lemmas.Bool.{false≢true, cases_lt}
use Rattle.std.proofs.lemmas.List.{take_all, length-take-le}
use Rattle.stream_model.specs.declared.vocabulary.ItemType.{ItemType}
use Rattle.stream_model.specs.declared.vocabulary.ItemType.TheVariants.{Byte, Short, Int}
use Rattle.stream_model.specs.Meaning.{Meaning}
use Rattle.block_parameters.specs.declared.fault.Parameter.{Parameter}
use Rattle.block_parameters.specs.declared.fault.Parameter.TheVariants as parameters
use Rattle.block_parameters.specs.declared.fault.ParamFault.{ParamFault}
use Rattle.block_parameters.specs.declared.fault.ParamFault.TheVariants.{BadParameter, Memory}
use Rattle.math_blocks.specs.Kinds.{IsTable}
use Rattle.rate_blocks.specs.Lengths.{AreLengths}
use Rattle.fir_blocks.specs.Parameters.{AreParameters, IsRefusal, IsFirstBad}
use Rattle.kind_schema.specs.Ranges.{is_wide, are_taps, are_bytes, are_lengths, is_within}
use Rattle.kind_schema.specs.Kinds.{needs}
use Rattle.kind_schema.specs.Reading.{IsBad}
use Rattle.kind_schema.proofs.Tests.{within-decides, taps-decides, table-decides, lengths-decides}

-- a test that decides P: what follows where P holds, and the fault where it does not
pub goes : {P : Type 0} (test : Bool) (p : Parameter) (rest : Result Meaning Parameter) → Decides test P → P → needs test p rest ≡ rest
goes test p rest d h = ap (λ b. needs b p rest) (d.1 h)

is_false : {P : Type 0} (test : Bool) → Decides test P → (P → ⊥) → test ≡ false
is_false true d bad = absurd (bad (d.0 refl))
is_false false d bad = refl

pub stops : {P : Type 0} (test : Bool) (p : Parameter) (rest : Result Meaning Parameter) → Decides test P → (P → ⊥) → needs test p rest ≡ Err p
stops test p rest d bad = ap (λ b. needs b p rest) (is_false test d bad)

wide-decides : (t : ItemType) → Decides (is_wide t) (t ≢ Byte)
wide-decides Byte = (λ e. absurd (false≢true e), λ other. absurd (other refl))
wide-decides Short = (λ _. λ e. cc, λ _. refl)
wide-decides Int = (λ _. λ e. cc, λ _. refl)

-- what a filter means, or the first of its parameters that is bad, where its rate goes by the name `named`
abbrev pub filtered : (ItemType → List ℤ → ℕ → ℕ → Meaning) → Parameter → ItemType → List ℤ → ℕ → ℕ → Result Meaning Parameter
filtered meant named t taps rate shift =
    needs (is_wide t) parameters.ItemType (needs (are_taps taps) parameters.Taps (needs (is_within 1 1024 rate) named (needs (is_within 0 31 shift) parameters.Shift (Ok (meant t taps rate shift)))))

module _ (meant : ItemType → List ℤ → ℕ → ℕ → Meaning) (named : Parameter) (t : ItemType) (taps : List ℤ) (rate shift : ℕ) where
  pub filter_good : AreParameters t taps rate shift → filtered meant named t taps rate shift ≡ Ok (meant t taps rate shift)
  filter_good h =
      goes (is_wide t) parameters.ItemType _ (wide-decides t) h.item_type ∙ goes (are_taps taps) parameters.Taps _ (taps-decides taps) h.taps_are
      ∙ goes (is_within 1 1024 rate) named _ (within-decides 1 1024 rate) h.rate_is ∙ goes (is_within 0 31 shift) parameters.Shift _ (within-decides 0 31 shift) (omega arith, h.shift_is)

  first_bad : (bad : Parameter) → IsFirstBad named t taps rate shift bad → filtered meant named t taps rate shift ≡ Err bad
  first_bad bad (inl h) = stops (is_wide t) parameters.ItemType _ (wide-decides t) (λ other. other h.1) ∙ ap Err (sym h.0)
  first_bad bad (inr (inl h)) = goes (is_wide t) parameters.ItemType _ (wide-decides t) h.1 ∙ stops (are_taps taps) parameters.Taps _ (taps-decides taps) h.2 ∙ ap Err (sym h.0)
  first_bad bad (inr (inr (inl h))) =
      goes (is_wide t) parameters.ItemType _ (wide-decides t) h.1 ∙ goes (are_taps taps) parameters.Taps _ (taps-decides taps) h.2
      ∙ stops (is_within 1 1024 rate) named _ (within-decides 1 1024 rate) h.3 ∙ ap Err (sym h.0)
  first_bad bad (inr (inr (inr h))) =
      goes (is_wide t) parameters.ItemType _ (wide-decides t) h.1 ∙ goes (are_taps taps) parameters.Taps _ (taps-decides taps) h.2
      ∙ goes (is_within 1 1024 rate) named _ (within-decides 1 1024 rate) h.3 ∙ stops (is_within 0 31 shift) parameters.Shift _ (within-decides 0 31 shift) (λ p. h.4 p.1) ∙ ap Err (sym h.0)

  pub filter_bad : (fault : ParamFault) → IsRefusal named t taps rate shift fault → IsBad true (filtered meant named t taps rate shift) fault
  filter_bad (BadParameter bad) h = first_bad bad h
  filter_bad Memory h = ap is_ok (filter_good h)

-- a list that is cut behind 257 numbers is the whole, unless it is too long for every kind
cut : (zs : List ℤ) → (take 257 zs ≡ zs) ⊎ (256 < length zs)
cut zs = elim (cases_lt 256 (length zs)) [ inl long ↦ inr long | inr h ↦ inl (take_all 257 zs (omega arith)) ]

long_cut : (zs : List ℤ) → 256 < length zs → 256 < length (take 257 zs)
long_cut zs h = let n = length-take-le 257 zs (omega arith) in omega arith

long_taps : (zs : List ℤ) → 256 < length zs → are_taps zs ≡ false
long_taps zs h = is_false (are_taps zs) (taps-decides zs) (λ are. let few = are.few in omega arith)

long_table : (zs : List ℤ) → 256 < length zs → are_bytes zs ≡ false
long_table zs h = is_false (are_bytes zs) (table-decides zs) (λ are. let few = are.0 in omega arith)

long_lengths : (zs : List ℤ) → 256 < length zs → are_lengths zs ≡ false
long_lengths zs h = is_false (are_lengths zs) (lengths-decides zs) (λ are. let few = are.few in omega arith)

-- so a kind makes the same of it
no_taps : (t : ItemType) (zs : List ℤ) (rest : Result Meaning Parameter) → 256 < length zs →
    needs (is_wide t) parameters.ItemType (needs (are_taps zs) parameters.Taps rest) ≡ needs (is_wide t) parameters.ItemType (Err parameters.Taps)
no_taps t zs rest long = ap (λ b. needs (is_wide t) parameters.ItemType (needs b parameters.Taps rest)) (long_taps zs long)

pub cut_filter :
    (meant : ItemType → List ℤ → ℕ → ℕ → Meaning) (named : Parameter) (t : ItemType) (zs : List ℤ) (rate shift : ℕ) → filtered meant named t (take 257 zs) rate shift ≡ filtered meant named t zs rate shift
cut_filter meant named t zs rate shift =
    let rest : List ℤ → Result Meaning Parameter = λ ts. needs (is_within 1 1024 rate) named (needs (is_within 0 31 shift) parameters.Shift (Ok (meant t ts rate shift))) in
    elim (cut zs) [
      | inl whole ↦ ap (λ ts. filtered meant named t ts rate shift) whole
      | inr long ↦ no_taps t (take 257 zs) (rest (take 257 zs)) (long_cut zs long) ∙ sym (no_taps t zs (rest zs) long)
    ]

pub cut_table : (meant : List ℤ → Meaning) (zs : List ℤ) → needs (are_bytes (take 257 zs)) parameters.Map (Ok (meant (take 257 zs))) ≡ needs (are_bytes zs) parameters.Map (Ok (meant zs))
cut_table meant zs =
    elim (cut zs) [
      | inl whole ↦ ap (λ ts. needs (are_bytes ts) parameters.Map (Ok (meant ts))) whole
      | inr long ↦ ap (λ b. needs b parameters.Map (Ok (meant (take 257 zs)))) (long_table (take 257 zs) (long_cut zs long)) ∙ sym (ap (λ b. needs b parameters.Map (Ok (meant zs))) (long_table zs long))
    ]

pub cut_lengths : (meant : List ℤ → Meaning) (zs : List ℤ) → needs (are_lengths (take 257 zs)) parameters.Lengths (Ok (meant (take 257 zs))) ≡ needs (are_lengths zs) parameters.Lengths (Ok (meant zs))
cut_lengths meant zs =
    elim (cut zs) [
      | inl whole ↦ ap (λ ts. needs (are_lengths ts) parameters.Lengths (Ok (meant ts))) whole
      | inr long ↦ ap (λ b. needs b parameters.Lengths (Ok (meant (take 257 zs)))) (long_lengths (take 257 zs) (long_cut zs long))
          ∙ sym (ap (λ b. needs b parameters.Lengths (Ok (meant zs))) (long_lengths zs long))
    ]

-- what a maker was given is what stands in the table
pub given : (P : List ℤ → ℕ → ℕ → Type 0) {taps taps' : List ℤ} {rate rate' shift shift' : ℕ} → taps ≡ taps' → rate ≡ rate' → shift ≡ shift' → P taps rate shift → P taps' rate' shift'
given P {taps} {taps'} {rate} {rate'} {shift} {shift'} t r s h = subst (λ ts. P ts rate' shift') t (subst (λ n. P taps n shift') r (subst (λ n. P taps rate n) s h))

pub table_good : (zs : List ℤ) (m : Meaning) → IsTable zs → needs (are_bytes zs) parameters.Map (Ok m) ≡ Ok m
table_good zs m h = goes (are_bytes zs) parameters.Map (Ok m) (table-decides zs) h

pub table_bad :
    (zs : List ℤ) (m : Meaning) (fault : ParamFault) → (fault ≡ BadParameter parameters.Map → IsTable zs → ⊥) → (fault ≡ Memory → IsTable zs) → (fault ≡ BadParameter parameters.Map) ⊎ (fault ≡ Memory)
    → IsBad true (needs (are_bytes zs) parameters.Map (Ok m)) fault
table_bad zs m fault bad good (inl e) = subst (IsBad true (needs (are_bytes zs) parameters.Map (Ok m))) (sym e) (stops (are_bytes zs) parameters.Map (Ok m) (table-decides zs) (bad e))
table_bad zs m fault bad good (inr e) = subst (IsBad true (needs (are_bytes zs) parameters.Map (Ok m))) (sym e) (ap is_ok (table_good zs m (good e)))

pub lengths_good : (zs : List ℤ) (m : Meaning) → AreLengths zs → needs (are_lengths zs) parameters.Lengths (Ok m) ≡ Ok m
lengths_good zs m h = goes (are_lengths zs) parameters.Lengths (Ok m) (lengths-decides zs) h

pub lengths_bad : (zs : List ℤ) (m : Meaning) (fault : ParamFault) → (AreLengths zs → ⊥) → fault ≡ BadParameter parameters.Lengths → IsBad false (needs (are_lengths zs) parameters.Lengths (Ok m)) fault
lengths_bad zs m fault bad e = subst (IsBad false (needs (are_lengths zs) parameters.Lengths (Ok m))) (sym e) (stops (are_lengths zs) parameters.Lengths (Ok m) (lengths-decides zs) bad)
