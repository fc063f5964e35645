use Rattle.std.proofs.Common.{◌≡◌, suc, ◌+◌, ◌-◌, ◌*◌, ◌^◌, ◌<◌, arith, ap, subst, sym, ◌∙◌}
use Rattle.kind_model.specs.Codes.{remainder}
use Rattle.code_blocks.proofs.Tables.{high_first, bits-of_byte, first-zero, at-upper-end}
use Rattle.code_blocks.proofs.division.entry_of.Goals as goal

pub loop-step-init : goal.loop-step-init
loop-step-init c =
    let w = c.args.bits in
    let p = c.args.polynomial in
    let at = at-upper-end w c.args.top c.requires.least c.requires.most c.requires.top in
    record {
      less = subst (λ r. r < 2 ^ w) (sym at.0) at.1;
      rest = ap (λ r. remainder w p r (high_first 8 0)) at.0 ∙ sym (ap (remainder w p (c.args.top * 2 ^ (w - 8))) (bits-of_byte 0));
    }

pub loop-step-preserved : goal.loop-step-preserved
loop-step-preserved c =
    let w = c.args.bits in
    let p = c.args.polynomial in
    let r = c.loop-step.register in
    let step = c.loop-step._step in
    let next : suc (8 - (step + 1)) ≡ 8 - step = omega (arith, c.loop-step-test.true) in
    record {
      less = c.divided_once-register.ensures.less;
      rest = ap (λ v. remainder w p v (high_first (8 - (step + 1)) 0)) c.divided_once-register.ensures.value
          ∙ sym (first-zero w p r (8 - (step + 1)))
          ∙ ap (λ m. remainder w p r (high_first m 0)) next
          ∙ c.loop-step.invariant.rest;
    }

pub returns : goal.returns
returns c =
    let w = c.args.bits in
    let p = c.args.polynomial in
    let r = c.loop-step.register in
    let done : 0 ≡ 8 - c.loop-step._step = omega (arith, c.loop-step-test.false) in
    ap (λ m. remainder w p r (high_first m 0)) done ∙ c.loop-step.invariant.rest
