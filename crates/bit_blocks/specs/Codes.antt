-- Codes that go on from byte to byte: each byte gives one, by a word that the byte then changes.
use Rattle.std.specs.Prelude.{◌≡◌, ◌≤◌, ◌<◌, ℕ, ◌+◌, ◌-◌, ◌*◌, ◌%◌, ◌^◌, ℤ, pos, ◌+ℤ◌, List, [], ◌∷◌, length, map, sum, refl}
use Rattle.std.proofs.Common.{subst, sym}
use Rattle.stream_model.specs.declared.vocabulary.ItemType.TheVariants.{Byte}
use Rattle.stream_model.specs.Lists.{item, numbers_from}
use Rattle.stream_model.specs.Numbers.{residue}
use Rattle.stream_model.specs.Settings.{Held}
use Rattle.stream_model.specs.Meaning.{Meaning, input}
use Rattle.stream_model.specs.Shapes.{sync}
use Rattle.kind_model.specs.Bits.{place_in, masked, places_of, low_bit}
use Rattle.items.specs.declared.stream_items.Items.{Items}
use Rattle.items.specs.Items.{type_of, numbers_of, spare_of}
use Rattle.block_trait.specs.Fill.{IsSingle}

-- what is given for the bytes, from a word on
abbrev pub coded : (ℕ → ℤ → ℕ) → (ℕ → ℤ → ℕ) → ℕ → List ℤ → List ℤ
coded gives next word [] = []
coded gives next word (z ∷ zs) = pos (gives word z) ∷ coded gives next (next word z) zs

-- the word behind them
abbrev pub word_after : (ℕ → ℤ → ℕ) → ℕ → List ℤ → ℕ
word_after next word [] = word
word_after next word (z ∷ zs) = word_after next (next word z) zs

-- what a block with a register gives for a byte: its lowest bit plus the bits of the register that the mask has, modulo
-- 2
abbrev pub given_bit : ℕ → ℕ → ℕ → ℤ → ℕ
given_bit bits mask word z = (residue z 2 + masked bits mask (places_of bits word)) % 2

-- the register with a bit in front, which is fed by the lowest bit of a byte and the sum of the bits that the mask has
abbrev pub fed_register : (ℕ → ℕ → ℕ) → ℕ → ℕ → ℕ → ℤ → ℕ
fed_register fed bits mask word z = (2 * word + fed (residue z 2) (masked bits mask (places_of bits word))) % 2 ^ bits

-- the register with the lowest bit of a byte in front
abbrev pub followed : ℕ → ℕ → ℤ → ℕ
followed bits word z = (2 * word + residue z 2) % 2 ^ bits

-- what a mask sums up before item n: the lowest bit of item n - j where it has place j
abbrev pub masked_before : ℕ → ℕ → List ℤ → ℕ → ℕ
masked_before bits mask x n = sum (map (λ j. place_in mask j * low_bit x (n - j)) (numbers_from 1 bits))

-- the sum with a byte, modulo a number
abbrev pub summed : ℕ → ℕ → ℤ → ℕ
summed modulus word z = residue (pos word +ℤ z) modulus

-- a block that gives a byte for a byte from a first word on, whose items and words are those of a code
pub record IsCode (m : Meaning) (start : ℕ) (is_word : ℕ → Type 0) (gives next : ℕ → ℤ → ℕ) : Type 0 where
  pub of_bytes : m ≡ record (sync Byte Byte) { start = start; word = m.word; out = m.out }
  pub words : (ts : List Held) (xs : List (List ℤ)) (a : ℕ) → is_word (m.word ts xs a)
  pub given : (ts : List Held) (xs : List (List ℤ)) (a : ℕ) → a < length (input xs 0) → m.out ts xs 0 a
      ≡ pos (gives (m.word ts xs a) (item (input xs 0) a))
  pub stepped : (ts : List Held) (xs : List (List ℤ)) (a : ℕ) → a < length (input xs 0) → m.word ts xs (a + 1)
      ≡ next (m.word ts xs a) (item (input xs 0) a)

pub code-single : {m : Meaning} {start : ℕ} {is_word : ℕ → Type 0} {gives next : ℕ → ℤ → ℕ}
    → IsCode m start is_word gives next → IsSingle m
code-single is = subst IsSingle (sym is.of_bytes) (record {
  in_least = refl;
  in_most = refl;
  out_least = refl;
  out_most = refl;
})

-- bytes, and an empty place with room for as many
pub record CanCode (items out : Items) : Type 0 where
  pub from : type_of items ≡ Byte
  pub to : type_of out ≡ Byte
  pub empty : numbers_of out ≡ []
  pub room : length (numbers_of items) ≤ spare_of out

-- their code stands there, and the word is the one behind them
pub record HasCoded (gives next : ℕ → ℤ → ℕ) (start : ℕ) (items out : Items) (word : ℕ) : Type 0 where
  pub item_type : type_of out ≡ Byte
  pub numbers : numbers_of out ≡ coded gives next start (numbers_of items)
  pub behind : word ≡ word_after next start (numbers_of items)
