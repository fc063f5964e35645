-- Numbers that go round.
use Rattle.std.proofs.Common.{◌≡◌, ℕ, suc, ◌+◌, ◌*◌, ◌/◌, ◌%◌, ◌<◌, arith, ap, sym, ◌∙◌}
use Rattle.std.proofs.Math.Nat.{add-mul-mod_self_right}
use Rattle.std.proofs.lemmas.Nat.{mod-mul-add}

-- behind the last number of a round comes 0
pub round_begins : (count n : ℕ) → count + 1 ≡ n → count < n → 0 ≡ suc count % n
round_begins count n last within =
    let whole : suc count ≡ 1 * n + 0 = omega (arith, last) in
    sym (ap (λ z. z % n) whole ∙ mod-mul-add 1 n 0 (omega arith))

-- and within one the next
pub round_goes_on : (count n : ℕ) → count + 1 < n → count + 1 ≡ suc count % n
round_goes_on count n within =
    let whole : suc count ≡ 0 * n + (count + 1) = omega arith in
    sym (ap (λ z. z % n) whole ∙ mod-mul-add 0 n (count + 1) within)

-- what comes next is the rest of the next number
pub next_rest : (a n : ℕ) → 0 < n → suc (a % n) % n ≡ (a + 1) % n
next_rest a n some =
    let parts : suc (a % n) + a / n * n ≡ a + 1 = grind arith in
    sym (add-mul-mod_self_right (suc (a % n)) (a / n) n) ∙ ap (λ z. z % n) parts
