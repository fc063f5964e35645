-- Registers that go on by many steps at once.
use Rattle.std.specs.Prelude.{ℕ, ◌+◌, ◌*◌, ◌/◌, ◌%◌, ◌^◌, ◌<◌, ◌≡◌, List, [], ◌∷◌, bit_xor}
use Rattle.kind_model.specs.Bits.{places_of, masked, register_of, shifted}

-- a matrix over two times a word, whose place i the column i is for: the columns of the places that the word has, added
-- bit by bit
unfoldable pub product : List ℕ → ℕ → ℕ
product [] word = 0
product (c ∷ cs) word = bit_xor (word % 2 * c) (product cs (word / 2))

-- a word after a step in which the sum of the bits that the mask has moves in
abbrev pub stepped : ℕ → ℕ → ℕ → ℕ
stepped bits mask word = (2 * word + masked bits mask (places_of bits word) % 2) % 2 ^ bits

-- what a register with feedback holds after so many steps
abbrev pub register_after : ℕ → ℕ → ℕ → ℕ → ℕ
register_after bits mask init steps = register_of bits (shifted bits mask init steps)

-- these columns make so many steps at once
abbrev pub MakeSteps : ℕ → ℕ → ℕ → List ℕ → Type 0
MakeSteps bits mask steps columns = (word : ℕ) → word < 2 ^ bits → product columns word
    ≡ register_after bits mask word steps
