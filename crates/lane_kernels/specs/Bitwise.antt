-- Operations on bits that join numbers one after the other.
use Rattle.std.proofs.Common.{◌≡◌, ℕ, ◌-◌, ◌^◌, ◌<◌, arith, ap, sym, ◌∙◌, mod-eq_of_lt, bit_and, bit_or}
use Rattle.std.specs.Prelude.{bit_xor, max}
use Rattle.std.proofs.lemmas.Bool.Decides.{nat_tests}
use Rattle.std.proofs.lemmas.Nat.{and_assoc, and_comm, or_comm, xor_comm, and_mask, pow_pos, or_lt, xor_lt}
use Rattle.std.proofs.lemmas.Nat.Bits.{same_from_bits, bit_at_or}
use Rattle.std.specs.Int.{bit_at}
use Rattle.std.specs.Int.Bits.{and_lt, or_zero_l, xor_assoc, xor_zero_l}
use Rattle.stream_model.specs.declared.vocabulary.ItemType.{ItemType}
use Rattle.stream_model.specs.Numbers.{numbers_in, bits_of}

-- an operation on bits that takes numbers one after the other, in any order, where `none` joins to nothing new
pub record IsBitwise (op : ℕ → ℕ → ℕ) (none : ItemType → ℕ) : Type 0 where
  pub assoc : (a b c : ℕ) → op (op a b) c ≡ op a (op b c)
  pub comm : (a b : ℕ) → op a b ≡ op b a
  pub keeps : (k a b : ℕ) → a < 2 ^ k → b < 2 ^ k → op a b < 2 ^ k
  pub none_less : (t : ItemType) → none t < numbers_in t
  pub unit : (t : ItemType) (b : ℕ) → b < numbers_in t → op (none t) b ≡ b

-- the number with all bits of the type, and that with none
abbrev pub all_set : ItemType → ℕ
all_set t = numbers_in t - 1

abbrev pub none_set : ItemType → ℕ
none_set t = 0

max_assoc : (a b c : ℕ) → max (max a b) c ≡ max a (max b c)
max_assoc a b c = grind (arith, nat_tests)

or_assoc : (a b c : ℕ) → bit_or (bit_or a b) c ≡ bit_or a (bit_or b c)
or_assoc a b c = same_from_bits _ _ (λ i.
    bit_at_or (bit_or a b) c i ∙ ap (λ x. max x (bit_at c i)) (bit_at_or a b i) ∙ max_assoc (bit_at a i) (bit_at b i)
    (bit_at c i)
    ∙ sym (bit_at_or a (bit_or b c) i ∙ ap (max (bit_at a i)) (bit_at_or b c i)))

pub and_is_bitwise : IsBitwise bit_and all_set
and_is_bitwise =
    record {
      assoc = λ a b c. and_assoc c a b;
      comm = and_comm;
      keeps = and_lt;
      none_less = λ t. ones_less (bits_of t);
      unit = λ t b less. and_comm (all_set t) b ∙ and_mask b (bits_of t) ∙ mod-eq_of_lt less;
    }
  where
    ones_less : (k : ℕ) → 2 ^ k - 1 < 2 ^ k
    ones_less k = omega (arith, pow_pos k)

pub or_is_bitwise : IsBitwise bit_or none_set
or_is_bitwise = record {
  assoc = or_assoc;
  comm = or_comm;
  keeps = or_lt;
  none_less = λ t. pow_pos (bits_of t);
  unit = λ t b less. or_zero_l b;
}

pub xor_is_bitwise : IsBitwise bit_xor none_set
xor_is_bitwise = record {
  assoc = xor_assoc;
  comm = xor_comm;
  keeps = xor_lt;
  none_less = λ t. pow_pos (bits_of t);
  unit = λ t b less. xor_zero_l b;
}
