use Rattle.std.proofs.Common.{◌≡◌, ℕ, ◌+◌, ◌-◌, ◌*◌, ◌/◌, ◌%◌, ◌<◌, ◌≤◌, arith, ap, sym, ◌∙◌}
use Rattle.std.proofs.lemmas.Nat.{mod-mul-add, mod_below}
use Rattle.bit_blocks.proofs.diff_encoder.ModulusCoder.step.Goals as goal
use Rattle.bit_blocks.proofs.diff_encoder.ModulusCoder.step.Goals.{then-sum-modulus, else-sum-modulus}

-- where the sum with the rest of a byte is within the modulus
below : (w b m : ℕ) → 0 < m → w + b % m < m → w + b % m ≡ (w + b) % m
below w b m some small =
    let parts : w + b ≡ b / m * m + (w + b % m) = grind arith in
    sym (ap (λ n. n % m) parts ∙ mod-mul-add (b / m) m (w + b % m) small)

-- and where it is not
above : (w b m : ℕ) → 0 < m → w < m → m ≤ w + b % m → w + b % m - m ≡ (w + b) % m
above w b m some small most =
    let rest : b % m < m = mod_below b m some in
    let near : w + b % m - m < m = omega arith in
    let parts : w + b ≡ (b / m + 1) * m + (w + b % m - m) = grind (arith, most) in
    sym (ap (λ n. n % m) parts ∙ mod-mul-add (b / m + 1) m (w + b % m - m) near)

pub returns-clause-given : goal.returns-clause-given
returns-clause-given c =
    let m = c.args.self.value in
    let two : 2 ≤ m = c.args.self.some in
    let rest : c.from-2.result ≡ c.args.byte % m = c.from-2.ensures ∙ ap (λ n. n % m) c.from.ensures in
    elim c.if-sum-modulus.branch [
      | then-sum-modulus w ↦
          let is = w.sum-is in let small = w.if-sum-modulus in
          omega (arith, below c.args.word c.args.byte m (omega arith) (omega (arith, rest, c.from-modulus.ensures)), is, rest)
      | else-sum-modulus w ↦
          let is = w.sum-is in let most = w.if-sum-modulus in
          omega (arith, above c.args.word c.args.byte m (omega arith) c.requires (omega (arith, rest, c.from-modulus.ensures)), is, rest, c.from-modulus.ensures)
    ]

pub returns-clause-next : goal.returns-clause-next
returns-clause-next c = returns-clause-given c
