use Rattle.std.proofs.Common.{◌≡◌, false, Result, Ok, Err, refl, ap, ap₂, sym, ◌∙◌, subst}
use Rattle.std.proofs.lemmas.Bool.{false≢true}
use Rattle.block_parameters.specs.declared.fault.ParamFault.{ParamFault}
use Rattle.kind_schema.specs.Reading.{IsBad}
use Rattle.kind_schema.proofs.Clips.{nearest, clip_good, clip_bad}
use Rattle.std.proofs.lemmas.Int.{to_z-of_z}
use mir.Syntax.{w64}
use Rattle.kind_schema.proofs.make.make_clip.Goals as goal

pub returns-in-Ok-clause-ok : goal.returns-in-Ok-clause-ok
returns-in-Ok-clause-ok c =
    let low_is = to_z-of_z w64 c.number-low.result (record { sfits = c.number-low.type_inv }) ∙ c.number-low.ensures in
    let high_is = to_z-of_z w64 c.number-high.result (record { sfits = c.number-high.type_inv }) ∙ c.number-high.ensures in
    let good = c.in-Ok.ensures.range.0 refl in
    ap₂ (λ y z. nearest c.args.item y z) (sym low_is) (sym high_is) ∙ clip_good c.args.item _ _ good.0 good.1 good.2 ∙ ap Ok (sym c.in-Ok.ensures.meaning)

un_err : {A : Type 0} (x y : ParamFault) → ◌≡◌ {A = Result A ParamFault} (Err x) (Err y) → x ≡ y
un_err x y e = cc

pub returns-in-Err-clause-bad : goal.returns-in-Err-clause-bad
returns-in-Err-clause-bad c =
    let low_is = to_z-of_z w64 c.number-low.result (record { sfits = c.number-low.type_inv }) ∙ c.number-low.ensures in
    let high_is = to_z-of_z w64 c.number-high.result (record { sfits = c.number-high.type_inv }) ∙ c.number-high.ensures in
    subst (λ r. IsBad false r c.in-Err.fault) (ap₂ (λ y z. nearest c.args.item y z) low_is high_is)
    (clip_bad c.args.item _ _ c.in-Err.fault (λ never. un_err _ _ (c.in-Err.ensures.bad_low.1 never)) (λ l never. un_err _ _ (c.in-Err.ensures.bad_high.1 (l, never)))
    (λ l h le. false≢true (c.in-Err.ensures.range.1 (l, h, le))))
