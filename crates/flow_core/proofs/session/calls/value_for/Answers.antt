use Rattle.std.proofs.Common.{◌≡◌, Some, refl, sym, ap, ◌∙◌, arith}
use Rattle.std.proofs.lemmas.Bool.Decides.{nat_tests}
use Rattle.stream_model.specs.Settings.{Taps}
use Rattle.items.specs.Items.{numbers_of}
use Rattle.flow_core.proofs.Sessions.{taps_for, taps_fit}
use Rattle.flow_core.proofs.session.calls.value_for.Goals as goal

pub returns-in-Ok-Short : goal.returns-in-Ok-Short
returns-in-Ok-Short c =
    let is : c.new.result ≡ c.args.numbers.now = c.new.ensures ∙ ap numbers_of (sym c.in-Ok-Short.field-0-is) ∙ c.in-Ok-Short.ensures.numbers in
    rw c.in-Taps.is (
      taps_for c.in-Taps.count c.args.numbers.now c.in-Ok-Short.ensures.in_range ∙ ap (λ h. Some (Taps h)) (sym is),
      taps_fit c.in-Taps.count c.args.numbers.now c.in-Ok-Short.ensures.in_range (let n = c.if-numbers-count.false in grind (arith, nat_tests, n)),
    )

pub returns-in-Err-Memory : goal.returns-in-Err-Memory
returns-in-Err-Memory c =
    rw c.in-Taps.is (refl, taps_fit c.in-Taps.count c.args.numbers.now (c.in-Err-Memory.ensures.memory (rw c.in-Err-Memory.field-0-is refl)) (let n = c.if-numbers-count.false in grind (arith, nat_tests, n)))
