-- The lengths of a mux as they are given.
use Rattle.std.specs.Prelude.{◌≤◌, ℕ, ℤ, pos, ◌≤ℤ◌, List, All, length, map, unsigned_abs}
use Rattle.kind_model.specs.Rates.{IsMux}

-- whole numbers without their signs
abbrev pub unsigned : List ℤ → List ℕ
unsigned zs = map unsigned_abs zs

-- one for each of at most 16 inputs, each of them above 0, and not too many in a round
pub record AreLengths (zs : List ℤ) : Type 0 where
  pub few : length zs ≤ 16
  pub above : All (λ z. pos 1 ≤ℤ z) zs
  pub mux : IsMux (unsigned zs)
