-- The search for the greatest common divisor, step by step.
use Rattle.std.proofs.Common.{◌≡◌, ◌≢◌, ℕ, zero, suc, ◌-◌, ◌%◌, ◌≤◌, Bool, true, false, arith, ap, sym, refl, ◌∙◌}
use Rattle.std.specs.Prelude.{◌==◌, ◌&&◌, if◌then◌else◌}
use Rattle.std.proofs.lemmas.Bool.Decides.{nat_tests}
use Rattle.kind_model.specs.BitStreams.{divisor_up_to}

-- a number that divides both is found
pub found : (a b d : ℕ) → 1 ≤ d → a % d ≡ 0 → b % d ≡ 0 → divisor_up_to a b d ≡ d
found a b zero some first second = absurd (omega arith)
found a b (suc d) some first second =
    let is : (a % suc d == 0) ≡ true = grind (arith, nat_tests) in
    let too : (b % suc d == 0) ≡ true = grind (arith, nat_tests) in
    λ i. if is i && too i then suc d else divisor_up_to a b d

-- a number that does not is not, and is above 1
pub passed :
    (a b d : ℕ) → 1 ≤ d → ((a % d == 0) && (b % d == 0)) ≡ false → (1 ≤ d - 1) × (divisor_up_to a b (d - 1) ≡ divisor_up_to a b d)
passed a b zero some none = absurd (omega arith)
passed a b (suc zero) some none =
    let first : (a % 1 == 0) ≡ true = grind (arith, nat_tests) in
    let second : (b % 1 == 0) ≡ true = grind (arith, nat_tests) in
    cc
passed a b (suc (suc d)) some none =
    let less : suc (suc d) - 1 ≡ suc d = omega arith in
    (omega arith, ap (divisor_up_to a b) less ∙ sym (ap (λ c. if c then suc (suc d) else divisor_up_to a b (suc d)) none))

pub first_fails : (a b d : ℕ) → a % d ≢ 0 → ((a % d == 0) && (b % d == 0)) ≡ false
first_fails a b d not =
    let no : (a % d == 0) ≡ false = grind (arith, nat_tests) in
    ap (λ c. c && (b % d == 0)) no

pub second_fails : (a b d : ℕ) → b % d ≢ 0 → ((a % d == 0) && (b % d == 0)) ≡ false
second_fails a b d not =
    let no : (b % d == 0) ≡ false = grind (arith, nat_tests) in
    choose (a % d == 0) no
  where
    choose : (c : Bool) → (b % d == 0) ≡ false → (c && (b % d == 0)) ≡ false
    choose true e = e
    choose false e = refl
