-- Inputs that take turns on one output, round after round.
use Rattle.std.specs.Prelude.{◌≡◌, ◌≤◌, ◌<◌, ◌⊎◌, ℕ, ◌+◌, ◌*◌, ℤ, List, length, take, sum}
use Rattle.stream_model.specs.Lists.{item}
use Rattle.kind_model.specs.Rates.{turn_of}
use Rattle.rate_blocks.specs.declared.turns.Turn.{Turn}

-- so many rounds of the turns of an input: this input's items, and a place for what all inputs give
pub record CanTurn (t : Turn) (xs ys : List ℤ) : Type 0 where
  pub taken : length xs ≡ t.rounds * t.length
  pub given : length ys ≡ t.rounds * t.all
  pub within : t.before + t.length ≤ t.all

-- in each round the input's items stand at the turn's place, and all other places are as they were
pub record HasTurned (t : Turn) (xs ys zs : List ℤ) : Type 0 where
  pub written : (g r : ℕ) → g < t.rounds → r < t.length → item zs (g * t.all + (t.before + r))
      ≡ item xs (g * t.length + r)
  pub kept : (g r : ℕ) → r < t.all → ((r < t.before) ⊎ (t.before + t.length ≤ r)) → item zs (g * t.all + r)
      ≡ item ys (g * t.all + r)

-- the turn of an input where inputs take turns of these lengths
pub record IsTurnOf (lengths : List ℕ) (rounds port : ℕ) (t : Turn) : Type 0 where
  pub rounds_are : t.rounds ≡ rounds
  pub length_is : t.length ≡ turn_of lengths port
  pub before_is : t.before ≡ sum (take port lengths)
  pub all_is : t.all ≡ sum lengths
