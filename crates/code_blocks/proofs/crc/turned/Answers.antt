use Rattle.std.proofs.Common.{◌≡◌, ◌+◌, ◌*◌, ◌/◌, ◌%◌, ◌^◌, arith, ap, ◌∙◌}
use Rattle.code_blocks.proofs.Checks.{turned-more, twice_less, turned-all}
use Rattle.code_blocks.proofs.crc.turned.Goals as goal

pub loop-k-preserved : goal.loop-k-preserved
loop-k-preserved c =
    let r = c.args.register in
    let k = c.loop-k.k in
    record {
      number = ap (λ n. 2 * n + r / 2 ^ k % 2) c.loop-k.invariant.number ∙ turned-more c.args.bits r k c.loop-k-test.true;
      less = twice_less k c.loop-k.number (r / 2 ^ k) c.loop-k.invariant.less;
    }

pub returns-clause-value : goal.returns-clause-value
returns-clause-value c =
    let whole : c.loop-k.k ≡ c.args.bits = omega (arith, c.loop-k-test.false, c.loop-k.auto.k-end) in
    c.loop-k.invariant.number ∙ turned-all c.args.bits c.args.register c.loop-k.k whole
