-- An order of places as it is given.
use Rattle.std.specs.Prelude.{◌≤◌, ◌≢◌, ℤ, pos, ◌≤ℤ◌, ◌<ℤ◌, List, All, length}
use Rattle.std.specs.List.{AllPairs}

-- 1 to 256 numbers, each of them a place of the list, and no two equal
pub record ArePlaces (zs : List ℤ) : Type 0 where
  pub some : 1 ≤ length zs
  pub few : length zs ≤ 256
  pub places : All (λ z. (pos 0 ≤ℤ z) × (z <ℤ pos (length zs))) zs
  pub once : AllPairs (λ y z. y ≢ z) zs
