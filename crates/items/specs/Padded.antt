-- A key in its sixteen places.
use Rattle.std.specs.Prelude.{◌≡◌, ℕ, ◌-◌, ◌≤◌, List, ◌++◌, length, take, replicate}
use Rattle.items.specs.Name.{IsName}

-- the first len places hold a name, and the others zeros
pub record IsPadded (bytes : List ℕ) (len : ℕ) : Type 0 where
  pub short : len ≤ 16
  pub whole : length bytes ≡ 16
  pub zeros : bytes ≡ take len bytes ++ replicate (16 - len) 0
  pub name : IsName 16 (take len bytes)
