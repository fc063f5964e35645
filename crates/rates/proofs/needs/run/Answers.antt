use Rattle.std.proofs.Common.{◌≡◌, ◌+◌, ◌-◌, suc, nat_lt, refl, arith, ap, sym, ◌∙◌, subst}
use Rattle.rates.proofs.Steps.{IsStepped, too_far, last_step, more_steps, past_told}
use Rattle.rates.proofs.Following.{true_false}
use Rattle.rates.proofs.needs.run.Goals as goal
use Rattle.rates.proofs.needs.run.Goals.{then-step-gt0, else-step-gt0}

pub returns-then-not-pass-clause-far : goal.returns-then-not-pass-clause-far
returns-then-not-pass-clause-far g c =
    λ _. too_far g.net c.requires.tables.rates c.args.firings.now c.requires.balanced c.loop-step.step (c.if-not-pass.ensures.far refl)

pub returns-then-past-clause-found : goal.returns-then-past-clause-found
returns-then-past-clause-found g c = λ _.
    let q = c.args.firings.now in
    let step = c.loop-step.step in
    let limit = c.loop-step-test.true in
    elim c.if-step-gt0.branch [
      | then-step-gt0 w ↦ (let some = w.if-step-gt0.true in
          let prior : step ≡ suc (step - 1) = omega arith in
          let told = past_told g.net q step c.loop-step.before c.loop-step.after c.loop-step.needed c.loop-step.invariant (step - 1) prior in
          last_step g.net c.requires.tables.rates q c.requires.balanced step c.loop-step.before c.loop-step.after c.loop-step.needed c.loop-step.invariant c.pass.new.after c.pass.new.needed (c.if-not-pass.ensures.done refl)
          (step - 1) prior (omega arith) (sym told ∙ sym w.are_past-past.ensures ∙ sym w.past-is ∙ c.if-past.true))
      | else-step-gt0 w ↦ absurd (let none = w.if-step-gt0.false in let zero : step ≡ 0 = omega arith in true_false c.if-step-gt0.past c.if-past.true (w.past-is ∙ ap (λ n. nat_lt 0 n) zero))
    ]

pub loop-step-preserved : goal.loop-step-preserved
loop-step-preserved g c =
    let q = c.args.firings.now in
    let step = c.loop-step.step in
    let next = more_steps g.net c.requires.tables.rates q c.requires.balanced step c.loop-step.before c.loop-step.after c.loop-step.needed c.loop-step.invariant c.pass.new.after c.pass.new.needed (c.if-not-pass.ensures.done refl) in
    subst (λ counts. IsStepped g.net q (step + 1) counts c.pass.new.after c.pass.new.needed) (sym c.copy_from_slice.ensures.after)
    (elim c.if-step-gt0.branch [
      | then-step-gt0 w ↦ next
          (λ j e. let told = past_told g.net q step c.loop-step.before c.loop-step.after c.loop-step.needed c.loop-step.invariant j (sym e) in
          sym told ∙ sym w.are_past-past.ensures ∙ sym w.past-is ∙ c.if-past.false)
      | else-step-gt0 w ↦ next (λ j e. let none = w.if-step-gt0.false in absurd (omega arith))
    ])
