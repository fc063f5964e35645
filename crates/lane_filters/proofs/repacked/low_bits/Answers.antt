use Rattle.std.proofs.Common.{◌≡◌, ℕ, suc, ◌+◌, ◌-◌, ◌*◌, ◌/◌, ◌%◌, ◌^◌, ◌<◌, ◌≤◌, ℤ, pos, negsuc, FitsSigned, of_z, w64, rules, arith, refl, ap, subst, sym, ◌∙◌}
use Rattle.std.proofs.Math.Nat.{pow-le-pow_right, mod-eq_of_lt}
use Rattle.std.proofs.lemmas.Int.{to_z-of_z}
use Rattle.std.proofs.lemmas.Nat.{pow-add, pow_pos, mod-mul-add, mod_below, div_below}
use Rattle.stream_model.specs.Numbers.{residue}
use Rattle.lane_filters.proofs.repacked.low_bits.Goals as goal

-- the rest of a number that is counted down from a multiple
counted_down : (n p q : ℕ) → 0 < p → n < q * p → (q * p - suc n) % p ≡ p - 1 - n % p
counted_down n p q some few =
    let turns : n / p < q = div_below n p q some few in
    let rest : n % p < p = mod_below n p some in
    let whole : n / p * p + n % p ≡ n = omega arith in
    let all : q * p ≡ (n / p + 1 + (q - 1 - n / p)) * p = ap (λ z. z * p) (omega (arith, turns)) in
    let each : (n / p + 1 + (q - 1 - n / p)) * p ≡ n / p * p + p + (q - 1 - n / p) * p = grind arith in
    let parts : q * p - suc n ≡ (q - 1 - n / p) * p + (p - 1 - n % p) = omega (arith, whole, all, each, rest) in
    ap (λ z. z % p) parts ∙ mod-mul-add (q - 1 - n / p) p (p - 1 - n % p) (omega (arith, rest))

-- the bits of a number in 64 are its residue in fewer
low_residue : (z : ℤ) (k : ℕ) → k ≤ 32 → FitsSigned w64 z → of_z w64 z % 2 ^ k ≡ residue z (2 ^ k)
low_residue (pos n) k few fits = refl
low_residue (negsuc n) k few fits =
    let apart : 64 - k + k ≡ 64 = omega (arith, few) in
    let whole : 2 ^ (64 - k) * 2 ^ k ≡ 18446744073709551616 = sym (pow-add 2 (64 - k) k) ∙ ap (λ e. 2 ^ e) apart in
    let near : n < 18446744073709551616 = omega arith in
    ap (λ z. (z - suc n) % 2 ^ k) (sym whole) ∙ counted_down n (2 ^ k) (2 ^ (64 - k)) (pow_pos k) (omega (arith, whole, near))

pub returns : goal.returns
returns g c =
    let k = c.args.k in
    let z = g.T.Number.number c.args.item in
    let fits : FitsSigned w64 c.widen.result = search rules in
    let same : c.cast_unsigned.result ≡ of_z w64 z = c.cast_unsigned.ensures ∙ ap (of_z w64) (to_z-of_z w64 c.widen.result fits ∙ c.widen.ensures.value) in
    let most : 2 ^ k ≤ 2 ^ 32 = pow-le-pow_right (omega arith) c.requires in
    let power : 1 * 2 ^ k % 18446744073709551616 ≡ 2 ^ k = ap (λ p. p % 18446744073709551616) (omega arith) ∙ mod-eq_of_lt (omega (arith, most)) in
    (λ i. same i % power i) ∙ low_residue z k c.requires (subst (FitsSigned w64) c.widen.ensures.value fits)
