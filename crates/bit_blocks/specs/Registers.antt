-- The numbers of a register.
use Rattle.std.specs.Prelude.{ℕ, ◌^◌, ◌<◌, ◌≤◌}

-- how many bits it has, which of them are summed, and what it holds at first
pub record IsRegister (bits mask init : ℕ) : Type 0 where
  pub bits_least : 2 ≤ bits
  pub bits_most : bits ≤ 32
  pub mask_least : 1 ≤ mask
  pub mask_most : mask < 2 ^ bits
  pub init_most : init < 2 ^ bits
