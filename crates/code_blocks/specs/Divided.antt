-- The division of polynomials, a byte at a time.
use Rattle.std.specs.Prelude.{ℕ, ◌-◌, ◌*◌, ◌/◌, ◌%◌, ◌^◌, List, map}
use Rattle.kind_model.specs.declared.vocabulary.BitOrder.{BitOrder}
use Rattle.stream_model.specs.Lists.{below}
use Rattle.kind_model.specs.BitStreams.{place_by}
use Rattle.kind_model.specs.Codes.{remainder}

-- the bits of a byte, the highest first
abbrev pub bits_of_byte : ℕ → List ℕ
bits_of_byte z = map (λ j. z / 2 ^ (7 - j) % 2) (below 8)

-- the register behind eight bits 0, where its eight highest bits are those of a byte and the others 0
abbrev pub entry : ℕ → ℕ → ℕ → ℕ
entry bits polynomial top = remainder bits polynomial (top * 2 ^ (bits - 8)) (bits_of_byte 0)

-- the bits of a byte in an order
abbrev pub bits_by : BitOrder → ℕ → List ℕ
bits_by o z = map (λ j. z / 2 ^ place_by o 8 j % 2) (below 8)
