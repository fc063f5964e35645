use Rattle.std.proofs.Common.{◌≡◌, ◌≤◌, ◌/◌, arith, sym, ◌∙◌, subst}
use Rattle.bit_blocks.specs.Jumps.{MakeSteps}
use Rattle.bit_blocks.proofs.Jumps.{IsOnTheWay, begun, halved, halved_odd, arrived}
use Rattle.bit_blocks.proofs.jump.register_after.Goals as goal
use Rattle.bit_blocks.proofs.jump.register_after.Goals.{then-left-eq1, else-left-eq1}

pub loop-left-init : goal.loop-left-init
loop-left-init c =
    let r = c.args.register.now in
    let some : 1 ≤ r.bits = (let two = r.is.bits_least in omega arith) in
    let same = c.of-taps.ensures.bits in
    begun r.bits r.mask r.init c.args.steps some r.is.init_most c.step-columns.result
    (subst (λ mask. MakeSteps r.bits mask 1 c.step-columns.result) c.of-taps.ensures.mask
    (subst (λ bits. MakeSteps bits c.of-taps.result.mask 1 c.step-columns.result) same (c.step-columns.ensures (omega arith))))

pub loop-left-preserved : goal.loop-left-preserved
loop-left-preserved c =
    let r = c.args.register.now in
    let some : 1 ≤ r.bits = (let two = r.is.bits_least in omega arith) in
    elim c.if-left-eq1.branch [
      | then-left-eq1 w ↦
          halved_odd r.bits r.mask r.init c.args.steps some c.loop-left.word c.loop-left.left c.loop-left.columns c.loop-left.invariant _ c.squared-columns.ensures
          w.if-left-eq1.true c.if-left-eq1.word (w.word-is ∙ w.product-word.ensures)
      | else-left-eq1 w ↦
          subst (λ word. IsOnTheWay r.bits r.mask r.init c.args.steps word (c.loop-left.left / 2) c.squared-columns.result) (sym w.word-is)
          (halved r.bits r.mask r.init c.args.steps some c.loop-left.word c.loop-left.left c.loop-left.columns c.loop-left.invariant _ c.squared-columns.ensures w.if-left-eq1.false)
    ]

pub returns-clause-value : goal.returns-clause-value
returns-clause-value c =
    let r = c.args.register.now in
    arrived r.bits r.mask r.init c.args.steps (let two = r.is.bits_least in omega arith) c.loop-left.word c.loop-left.left c.loop-left.columns c.loop-left.invariant (omega arith)
