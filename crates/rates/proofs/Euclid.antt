-- Euclid's algorithm, step by step.
use Rattle.std.proofs.Common.{◌≡◌, ℕ, zero, suc, ◌%◌, ◌<◌, ◌≤◌, refl, arith}
use Rattle.std.proofs.Math.Nat.{mod-lt}
use Rattle.graph_model.specs.Rates.{gcd_by, gcd}

-- turns beyond the second number change nothing
turns_same : (s t a b : ℕ) → b ≤ s → b ≤ t → gcd_by s a b ≡ gcd_by t a b
turns_same zero zero a b x y = refl
turns_same zero (suc t) a zero x y = refl
turns_same zero (suc t) a (suc b) x y = absurd (omega arith)
turns_same (suc s) zero a zero x y = refl
turns_same (suc s) zero a (suc b) x y = absurd (omega arith)
turns_same (suc s) (suc t) a zero x y = refl
turns_same (suc s) (suc t) a (suc b) x y =
    let low : a % suc b < suc b = mod-lt a (omega arith) in
    turns_same s t (suc b) (a % suc b) (omega arith) (omega arith)

pub gcd-rest : (a b : ℕ) → 1 ≤ b → gcd a b ≡ gcd b (a % b)
gcd-rest a zero some = absurd (omega arith)
gcd-rest a (suc b) some =
    let low : a % suc b < suc b = mod-lt a (omega arith) in
    turns_same b (a % suc b) (suc b) (a % suc b) (omega arith) (omega arith)
