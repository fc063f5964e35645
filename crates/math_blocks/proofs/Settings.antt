-- The number in force over the items of a window.
use Rattle.std.proofs.Common.{◌≡◌, ℕ, ◌<◌, ◌≤◌, List}
use Rattle.stream_model.specs.Settings.{Value, Held, in_force, between}
use Rattle.stream_model.specs.Shapes.{number_set}
use Rattle.block_trait.proofs.InForce.{latest-between}
use Rattle.math_blocks.specs.Stretch.{number_among}

pub number_among-between : (own : Value) (ts : List Held) (from to a : ℕ) → from ≤ a → a < to → number_among (between own ts from to) a ≡ number_set (in_force own ts a)
number_among-between own ts from to a low high = latest-between own ts (λ (h : Held). number_set h.value) from to a low high
