use Rattle.std.proofs.Common.{◌≡◌, ◌-◌, ◌*◌, ◌/◌, ◌%◌, ◌^◌, ◌<◌, ◌≤◌, arith, ap, subst, sym, ◌∙◌}
use Rattle.std.specs.Prelude.{bit_xor}
use Rattle.code_blocks.proofs.Tables.{divided-none, divided-some, few_bits, kept-low, sum-less}
use Rattle.code_blocks.proofs.division.divided_once.Goals as goal

pub returns-then-register-bits-eq0-clause-value : goal.returns-then-register-bits-eq0-clause-value
returns-then-register-bits-eq0-clause-value c =
    let w = c.args.bits in
    let r = c.args.register in
    let few = few_bits w r c.requires.most c.requires.register in
    let none : r / 2 ^ (w - 1) ≡ 0 = omega (arith, c.if-register-bits-eq0.true) in
    let turned : r * 2 % 2 ^ w ≡ 2 * r % 2 ^ w = ap (λ n. n % 2 ^ w) (omega arith) in
    kept-low w (r * 2) c.requires.most (omega (arith, few)) ∙ turned ∙ sym (divided-none w c.args.polynomial r none)

pub returns-else-register-bits-eq0-clause-value : goal.returns-else-register-bits-eq0-clause-value
returns-else-register-bits-eq0-clause-value c =
    let w = c.args.bits in
    let r = c.args.register in
    let p = c.args.polynomial in
    let few = few_bits w r c.requires.most c.requires.register in
    let some : 1 ≤ r / 2 ^ (w - 1) = omega (arith, c.if-register-bits-eq0.false) in
    let turned : r * 2 % 2 ^ w ≡ 2 * r % 2 ^ w = ap (λ n. n % 2 ^ w) (omega arith) in
    ap (λ n. bit_xor n p) (kept-low w (r * 2) c.requires.most (omega (arith, few)) ∙ turned)
    ∙ sym (divided-some w p r (omega (arith, c.requires.least)) c.requires.register some)

pub returns-else-register-bits-eq0-clause-less : goal.returns-else-register-bits-eq0-clause-less
returns-else-register-bits-eq0-clause-less c =
    let w = c.args.bits in
    let r = c.args.register in
    let p = c.args.polynomial in
    let few = few_bits w r c.requires.most c.requires.register in
    subst (λ n. bit_xor n p < 2 ^ w) (sym (kept-low w (r * 2) c.requires.most (omega (arith, few)))) (sum-less w (r * 2) p c.requires.small)
