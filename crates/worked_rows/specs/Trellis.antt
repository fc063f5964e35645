-- The machines of the worked rows, and metrics of what they gave.
use Rattle.std.specs.Prelude.{ℕ, ◌/◌, ◌%◌, ◌+◌, ℤ, pos, List, [], ◌∷◌, flat_map, map, Option, bit_xor}
use Rattle.stream_model.specs.Lists.{below}
use Rattle.kind_model.specs.Trellis.{Trellis}

-- the convolutional code of the polynomials 1 + D^2 and 1 + D + D^2, whose state is the last two bits, the newest the
-- highest
abbrev pub convolved : ℕ → Option ℕ → Option ℕ → Trellis
convolved n begin last =
    record {
      symbols = 2;
      next = 0 ∷ 2 ∷ 0 ∷ 2 ∷ 1 ∷ 3 ∷ 1 ∷ 3 ∷ [];
      output = 0 ∷ 3 ∷ 3 ∷ 0 ∷ 1 ∷ 2 ∷ 2 ∷ 1 ∷ [];
      outputs = 4;
      steps = n;
      start = begin;
      end = last;
    }

-- sums modulo 2, which are both the state and the output
abbrev pub summed : ℕ → Option ℕ → Option ℕ → Trellis
summed n begin last = record {
  symbols = 2;
  next = 0 ∷ 1 ∷ 1 ∷ 0 ∷ [];
  output = 0 ∷ 1 ∷ 1 ∷ 0 ∷ [];
  outputs = 2;
  steps = n;
  start = begin;
  end = last;
}

-- how many bits of a pair are not those of another
abbrev pub distance : ℕ → ℕ → ℤ
distance a b = pos (bit_xor a b / 2 + bit_xor a b % 2)

-- of each pair that came, how far it is from each of the four that there are
abbrev pub distances : List ℕ → List ℤ
distances pairs = flat_map (λ a. map (distance a) (below 4)) pairs
