-- What the maker of a clip answers, by the tests of its ends.
use Rattle.std.proofs.Common.{◌≡◌, ◌⊎◌, inl, inr, ℤ, ◌≤ℤ◌, ◌<ℤ◌, int_le, int_lt, Bool, true, false, not, ◌&&◌, T, Result, Ok, Decides, refl, sym, ◌∙◌, subst}
use Rattle.std.specs.Int.Signed.{lt_z_yes, lt_z_no}
use Rattle.std.proofs.lemmas.Bool.{false≢true}
use Rattle.std.proofs.lemmas.Bool.Decides.{Decides-and}
use Rattle.stream_model.specs.declared.vocabulary.ItemType.{ItemType}
use Rattle.stream_model.specs.Numbers.{IsItem}
use Rattle.stream_model.specs.Meaning.{Meaning}
use Rattle.kind_model.specs.Math.{clip}
use Rattle.block_parameters.specs.declared.fault.Parameter.{Parameter}
use Rattle.block_parameters.specs.declared.fault.Parameter.TheVariants.{Low, High}
use Rattle.block_parameters.specs.declared.fault.ParamFault.{ParamFault}
use Rattle.block_parameters.specs.declared.fault.ParamFault.TheVariants.{BadParameter}
use Rattle.kind_schema.specs.Ranges.{is_in}
use Rattle.kind_schema.specs.Kinds.{needs}
use Rattle.kind_schema.specs.Reading.{IsBad}
use Rattle.kind_schema.proofs.Tests.{int-decides, in-decides}
use Rattle.kind_schema.proofs.Makers.{goes, stops}

-- what a clip means, or the first of its ends that is bad
abbrev pub nearest : ItemType → ℤ → ℤ → Result Meaning Parameter
nearest t low high = needs (is_in t low) Low (needs (is_in t high && int_le low high) High (Ok (clip t low high)))

fails : {P : Type 0} (test : Bool) → Decides test P → test ≡ false → P → ⊥
fails test d e p = false≢true (sym e ∙ d.1 p)

module _ (t : ItemType) (low high : ℤ) where
  abbrev high_test : Bool
  high_test = is_in t high && int_le low high

  high-decides : Decides high_test (IsItem t high × (low ≤ℤ high))
  high-decides = Decides-and (is_in t high) (int_le low high) (in-decides t high) (int-decides low high)

  pub clip_good : IsItem t low → IsItem t high → low ≤ℤ high → nearest t low high ≡ Ok (clip t low high)
  clip_good l h le = goes (is_in t low) Low _ (in-decides t low) l ∙ goes high_test High _ high-decides (h, le)

  module _ (fault : ParamFault)
      (bad_low : (IsItem t low → ⊥) → fault ≡ BadParameter Low)
      (bad_high : IsItem t low → ((IsItem t high → ⊥) ⊎ (high <ℤ low)) → fault ≡ BadParameter High)
      (is_bad : IsItem t low → IsItem t high → low ≤ℤ high → ⊥) where
    abbrev pub IsAnswer : Type 0
    IsAnswer = IsBad false (nearest t low high) fault

    above : (b : Bool) → int_lt high low ≡ b → IsItem t low → IsItem t high → high <ℤ low
    above true e l h = lt_z_yes (subst T (sym e) tt)
    above false e l h = absurd (is_bad l h (lt_z_no (subst (λ b. T (not b)) (sym e) tt)))

    high_is_bad : IsItem t low → fault ≡ BadParameter High → (IsItem t high × (low ≤ℤ high) → ⊥) → IsAnswer
    high_is_bad l is never =
        subst (IsBad false (nearest t low high)) (sym is)
        (goes (is_in t low) Low _ (in-decides t low) l ∙ stops high_test High _ high-decides never)

    by_high : (b : Bool) → is_in t high ≡ b → IsItem t low → IsAnswer
    by_high false e l = let never = fails (is_in t high) (in-decides t high) e in high_is_bad l (bad_high l (inl never)) (λ h. never h.0)
    by_high true e l =
        let h = (in-decides t high).0 e in
        high_is_bad l (bad_high l (inr (above (int_lt high low) refl l h))) (λ p. is_bad l p.0 p.1)

    by_low : (b : Bool) → is_in t low ≡ b → IsAnswer
    by_low false e = let never = fails (is_in t low) (in-decides t low) e in subst (IsBad false (nearest t low high)) (sym (bad_low never)) (stops (is_in t low) Low _ (in-decides t low) never)
    by_low true e = by_high (is_in t high) refl ((in-decides t low).0 e)

    pub clip_bad : IsAnswer
    clip_bad = by_low (is_in t low) refl
