-- Words of bits in a window of items.
use Rattle.std.specs.Prelude.{ℕ, ◌+◌, ◌*◌, ℤ, pos, List, map, ◌&&◌, nat_le, if◌then◌else◌}
use Rattle.kind_model.specs.declared.vocabulary.BitOrder.TheVariants.{MsbFirst}
use Rattle.stream_model.specs.Lists.{numbers_from}
use Rattle.kind_model.specs.Bits.{low_bit}
use Rattle.kind_model.specs.BitStreams.{number_by, distance}

-- the number of the lowest bits of so many items from item a on, the first the highest
abbrev pub word_at : ℕ → List ℤ → ℕ → ℕ
word_at count w a = number_by MsbFirst (map (low_bit w) (numbers_from a count))

-- the lowest bit of the item behind such a word, and 2 more where the word is near enough to the code and the place has
-- the code before it
abbrev pub marked : ℕ → ℕ → ℕ → ℕ → List ℤ → ℕ → ℤ
marked code count threshold first w k =
    pos (low_bit w (k + count) + 2 * (if nat_le count (first + k) && nat_le (distance (word_at count w k) code)
    threshold then 1 else 0))
