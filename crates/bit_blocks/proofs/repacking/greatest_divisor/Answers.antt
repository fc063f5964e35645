use Rattle.std.proofs.Common.{◌≡◌, ◌-◌, ◌≤◌, sym, ◌∙◌}
use Rattle.kind_model.specs.BitStreams.{divisor_up_to}
use Rattle.bit_blocks.proofs.Divisors.{found, passed, first_fails, second_fails}
use Rattle.bit_blocks.proofs.repacking.greatest_divisor.Goals as goal
use Rattle.bit_blocks.proofs.repacking.greatest_divisor.Goals.{then-a-divisor-ne0, else-a-divisor-ne0+then-b-divisor-ne0}

pub loop-divisor-preserved : goal.loop-divisor-preserved
loop-divisor-preserved c =
    let a = c.args.a in
    let b = c.args.b in
    let d = c.loop-divisor.divisor in
    let some = c.loop-divisor.invariant.0 in
    let next : (1 ≤ d - 1) × (divisor_up_to a b (d - 1) ≡ divisor_up_to a b d) =
    elim c.if-a-divisor-ne0.branch [
      | then-a-divisor-ne0 w ↦ passed a b d some (first_fails a b d w.if-a-divisor-ne0.true)
      | else-a-divisor-ne0+then-b-divisor-ne0 w ↦ passed a b d some (second_fails a b d w.if-b-divisor-ne0.true)
    ] in
    (next.0, next.1 ∙ c.loop-divisor.invariant.1)

pub returns-clause-value : goal.returns-clause-value
returns-clause-value c =
    sym (found c.args.a c.args.b c.loop-divisor.divisor c.loop-divisor.invariant.0 c.if-a-divisor-ne0.false c.if-b-divisor-ne0.false) ∙ c.loop-divisor.invariant.1
