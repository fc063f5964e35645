-- Blocks of items, and numbers within bounds.
use Rattle.std.specs.Prelude.{◌≡◌, ℕ, ◌≤◌, ℤ, List, length, All, unsigned_abs, int_lt, if◌then◌else◌}
use Rattle.stream_model.specs.Numbers.{IsItem}
use Rattle.stream_model.specs.declared.vocabulary.ItemType.{ItemType}

-- so many items of the type
pub record IsBlock {X : Type 0} (count : ℕ) (t : ItemType) (number : X → ℤ) (xs : List X) : Type 0 where
  pub whole : length xs ≡ count
  pub items : All (λ x. IsItem t (number x)) xs

-- z is at most bound away from 0
pub record IsWithin (bound : ℕ) (z : ℤ) : Type 0 where
  pub near : unsigned_abs z ≤ bound

-- z, or the nearer of two ends
abbrev pub clamped : ℤ → ℤ → ℤ → ℤ
clamped least greatest z = if int_lt z least then least else if int_lt greatest z then greatest else z
