-- The scramblers are codes.
use Rattle.std.specs.Prelude.{◌≡◌, refl, ℕ, suc, ◌+◌, ◌*◌, ◌%◌, ◌^◌, ◌<◌, ◌≤◌, pos}
use Rattle.std.proofs.Common.{arith, ap, ◌∙◌}
use Rattle.stream_model.specs.Lists.{item}
use Rattle.stream_model.specs.Numbers.{residue}
use Rattle.stream_model.specs.Meaning.{input}
use Rattle.kind_model.specs.Bits.{register_of, scrambled, received, shifted, scrambler, descrambler, additive_scrambler}
use Rattle.kind_laws.specs.Registers.{register_of-less, AreBits-scrambled, AreBits-received, AreBits-shifted, scrambled-out, scrambled-word, received-out, received-word, shifted-out, shifted-word}
use Rattle.bit_blocks.specs.Codes.{given_bit, fed_register, IsCode}

next_number : (a : ℕ) → a + 1 ≡ suc a
next_number a = omega arith

module _ (bits mask init : ℕ) (some : 2 ≤ bits) where
  pub scrambler-coded : IsCode (scrambler bits mask init) init (λ word. word < 2 ^ bits) (given_bit bits mask)
      (fed_register (λ bit sum. (bit + sum) % 2) bits mask)
  scrambler-coded =
      record {
        of_bytes = refl;
        words = λ ts xs a. register_of-less bits (scrambled bits mask init (input xs 0) a)
            (AreBits-scrambled bits mask init (input xs 0) a);
        given = λ ts xs a h. ap pos (scrambled-out bits mask init (input xs 0) a);
        stepped = λ ts xs a h.
            ap (λ k. register_of bits (scrambled bits mask init (input xs 0) k)) (next_number a)
            ∙ scrambled-word bits mask init (input xs 0) a (omega arith)
            ∙ ap (λ b. (2 * register_of bits (scrambled bits mask init (input xs 0) a) + b) % 2 ^ bits)
            (scrambled-out bits mask init (input xs 0) a);
      }

  pub descrambler-coded : IsCode (descrambler bits mask init) init (λ word. word < 2 ^ bits) (given_bit bits mask)
      (fed_register (λ bit _. bit) bits mask)
  descrambler-coded =
      record {
        of_bytes = refl;
        words = λ ts xs a. register_of-less bits (received bits init (input xs 0) a)
            (AreBits-received bits init (input xs 0) a);
        given = λ ts xs a h. ap (λ m. pos ((residue (item (input xs 0) a) 2 + m) % 2))
            (received-out bits mask init (input xs 0) a);
        stepped = λ ts xs a h.
            ap (λ k. register_of bits (received bits init (input xs 0) k)) (next_number a) ∙ received-word bits init
            (input xs 0) a (omega arith);
      }

  pub additive_scrambler-coded : IsCode (additive_scrambler bits mask init) init (λ word. word < 2 ^ bits)
      (given_bit bits mask) (fed_register (λ _ sum. sum % 2) bits mask)
  additive_scrambler-coded =
      record {
        of_bytes = refl;
        words = λ ts xs a. register_of-less bits (shifted bits mask init a) (AreBits-shifted bits mask init a);
        given = λ ts xs a h.
            ap (λ m. pos ((residue (item (input xs 0) a) 2 + m) % 2)) (shifted-out bits mask init a) ∙ ap pos
            (omega arith);
        stepped = λ ts xs a h.
            ap (λ k. register_of bits (shifted bits mask init k)) (next_number a)
            ∙ shifted-word bits mask init a (omega arith)
            ∙ ap (λ b. (2 * register_of bits (shifted bits mask init a) + b) % 2 ^ bits) (shifted-out bits mask init a);
      }
