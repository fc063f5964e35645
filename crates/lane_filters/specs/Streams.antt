-- Bits of a stream as numbers.
use Rattle.std.specs.Prelude.{ℕ, ◌+◌, ◌*◌, ◌/◌, ◌%◌, ◌^◌, map}
use Rattle.kind_model.specs.declared.vocabulary.BitOrder.{BitOrder}
use Rattle.kind_model.specs.declared.vocabulary.BitOrder.TheVariants.{MsbFirst, LsbFirst}
use Rattle.stream_model.specs.Lists.{below}
use Rattle.kind_model.specs.BitStreams.{place_by, number_by}

-- the number of c bits and d bits behind them
abbrev pub joined : BitOrder → ℕ → ℕ → ℕ → ℕ → ℕ
joined MsbFirst c first d last = first * 2 ^ d + last
joined LsbFirst c first d last = first + last * 2 ^ c

-- the number of the first c bits, where there are d behind them
abbrev pub front : BitOrder → ℕ → ℕ → ℕ → ℕ
front MsbFirst c d all = all / 2 ^ d
front LsbFirst c d all = all % 2 ^ c

-- the number of those d
abbrev pub behind : BitOrder → ℕ → ℕ → ℕ → ℕ
behind MsbFirst c d all = all % 2 ^ d
behind LsbFirst c d all = all / 2 ^ c

-- the number that has in order p the bits that a number of so many bits has in order o
abbrev pub reordered : BitOrder → BitOrder → ℕ → ℕ → ℕ
reordered o p count z = number_by p (map (λ j. z / 2 ^ place_by o count j % 2) (below count))
