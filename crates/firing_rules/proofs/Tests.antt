-- Tests, and what they tell.
use Rattle.std.proofs.Common.{◌≡◌, ℕ, ◌≤◌, min, Bool, true, false, Option, Some, None, refl, arith, sym}
use Rattle.std.specs.Prelude.{◌&&◌, ◌||◌, nat_le, ◌↔◌, if◌then◌else◌}
use Rattle.std.specs.Option.{option_or}
use Rattle.std.proofs.lemmas.Bool.{leb-true, le-leb, and_from, and_parts}

pub same_bool : (a b : Bool) → (a ≡ true → b ≡ true) → (b ≡ true → a ≡ true) → a ≡ b
same_bool true b f g = sym (f refl)
same_bool false true f g = g refl
same_bool false false f g = refl

pub same_le : (a b c d : ℕ) → (a ≤ b) ↔ (c ≤ d) → nat_le a b ≡ nat_le c d
same_le a b c d both =
    same_bool (nat_le a b) (nat_le c d) (λ e. le-leb c d (both.0 (leb-true a b e))) (λ e. le-leb a b (both.1 (leb-true c d e)))

pub le_min : (k a b : ℕ) → nat_le k (min a b) ≡ (nat_le k a && nat_le k b)
le_min k a b =
    same_bool (nat_le k (min a b)) (nat_le k a && nat_le k b)
    (λ e. let h = leb-true k (min a b) e in and_from (nat_le k a) (nat_le k b) (le-leb k a (omega (arith, h))) (le-leb k b (omega (arith, h))))
    (λ e. let parts = and_parts (nat_le k a) (nat_le k b) e in
    let first = leb-true k a parts.0 in let second = leb-true k b parts.1 in le-leb k (min a b) (omega (arith, first, second)))

pub and_true : (a b : Bool) → b ≡ true → a ≡ (a && b)
and_true true b e = sym e
and_true false b e = refl

pub or-false : (b : Bool) → (b || false) ≡ b
or-false true = refl
or-false false = refl

-- a test more, before the rest
pub or_turn : (old now rest : Bool) → ((old || now) || rest) ≡ (old || (now || rest))
or_turn true now rest = refl
or_turn false now rest = refl

pub option_or-none : (o : Option ℕ) → option_or o None ≡ o
option_or-none None = refl
option_or-none (Some p) = refl

-- the first port at which a test fails
pub first_turn : (old : Option ℕ) (passes : Bool) (p : ℕ) (rest : Option ℕ) →
    option_or (option_or old (if passes then None else Some p)) rest ≡ option_or old (if passes then rest else Some p)
first_turn None true p rest = refl
first_turn None false p rest = refl
first_turn (Some q) passes p rest = refl
