-- What one lane of the machine computes is what the definitions of items say of its number.
use Rattle.std.proofs.Common.{◌≡◌, ℕ, ◌+◌, ◌-◌, ◌*◌, ◌%◌, ◌^◌, ◌<◌, ◌∙◌, Bool, true, false, ltb, ap, sym, refl, arith, ℤ, pos, negsuc, ◌+ℤ◌, ◌*ℤ◌, w16, w32, of_z, to_z, SFits, mod-eq_of_lt, bit_and, bit_or}
use Rattle.std.specs.Int.{Width, int_wrap}
use mir.Val.{bits}
use Rattle.std.specs.Prelude.{bit_xor}
use Rattle.std.proofs.lemmas.Int.{wrapping_add_is, wrapping_mul_is}
use Rattle.std.proofs.lemmas.Nat.{and_le_l, or_lt, xor_lt}
use Rattle.stream_model.specs.Numbers.{IsItem, wrap, centred, numbers_in}
use Rattle.kind_model.specs.Kernels.{bits_in, bits_joined, turned}
use Rattle.stream_model.specs.declared.vocabulary.ItemType.{ItemType}
use Rattle.stream_model.specs.declared.vocabulary.ItemType.TheVariants.{Byte, Short, Int}
use Rattle.numbers.proofs.Widths.{byte_below, short_fits, int_fits}

-- op keeps numbers below 2 ^ k below it
pub record Keeps (op : ℕ → ℕ → ℕ) (k : ℕ) : Type 0 where
  pub below : (a b : ℕ) → a < 2 ^ k → b < 2 ^ k → op a b < 2 ^ k

pub and_keeps : (k : ℕ) → Keeps bit_and k
and_keeps k = record { below = λ a b p q. omega (arith, and_le_l a b) }

pub or_keeps : (k : ℕ) → Keeps bit_or k
or_keeps k = record { below = or_lt k }

pub xor_keeps : (k : ℕ) → Keeps bit_xor k
xor_keeps k = record { below = xor_lt k }

-- ---- signed lanes

-- lanes of width w hold the items of type t in two's complement
pub record Holds (w : Width) (t : ItemType) : Type 0 where
  pub wraps : (z : ℤ) → wrap t z ≡ int_wrap w z
  pub fits : (z : ℤ) → IsItem t z → SFits w z
  pub is_bits : (z : ℤ) → SFits w z → bits_in t z ≡ of_z w z
  pub below : (z : ℤ) → SFits w z → of_z w z < 2 ^ bits w
  pub numbers : numbers_in t ≡ 2 ^ bits w

pub centred_short : (r : ℕ) → centred 65536 r ≡ to_z w16 r
centred_short r = go (ltb r 32768) refl
  where
    go : (b : Bool) → ltb r 32768 ≡ b → centred 65536 r ≡ to_z w16 r
    go true e = rw e
    go false e = rw e (ap negsuc (omega arith))

centred_int : (r : ℕ) → centred 4294967296 r ≡ to_z w32 r
centred_int r = go (ltb r 2147483648) refl
  where
    go : (b : Bool) → ltb r 2147483648 ≡ b → centred 4294967296 r ≡ to_z w32 r
    go true e = rw e
    go false e = rw e (ap negsuc (omega arith))

wrap_short : (z : ℤ) → wrap Short z ≡ int_wrap w16 z
unfolding int_wrap
wrap_short (pos n) = centred_short (n % 65536)
wrap_short (negsuc n) = centred_short (65536 - 1 - n % 65536)

wrap_int : (z : ℤ) → wrap Int z ≡ int_wrap w32 z
unfolding int_wrap
wrap_int (pos n) = centred_int (n % 4294967296)
wrap_int (negsuc n) = centred_int (4294967296 - 1 - n % 4294967296)

bits_short : (z : ℤ) → SFits w16 z → bits_in Short z ≡ of_z w16 z
bits_short (pos n) h = omega (arith, h.sfits)
bits_short (negsuc n) h = omega (arith, h.sfits)

bits_int : (z : ℤ) → SFits w32 z → bits_in Int z ≡ of_z w32 z
bits_int (pos n) h = omega (arith, h.sfits)
bits_int (negsuc n) h = omega (arith, h.sfits)

below_short : (z : ℤ) → SFits w16 z → of_z w16 z < 2 ^ 16
below_short (pos n) h = omega (arith, h.sfits)
below_short (negsuc n) h = omega (arith, h.sfits)

below_int : (z : ℤ) → SFits w32 z → of_z w32 z < 2 ^ 32
below_int (pos n) h = omega (arith, h.sfits)
below_int (negsuc n) h = omega (arith, h.sfits)

pub short_lanes : Holds w16 Short
short_lanes = record { wraps = wrap_short; fits = short_fits; is_bits = bits_short; below = below_short; numbers = refl }

pub int_lanes : Holds w32 Int
int_lanes = record { wraps = wrap_int; fits = int_fits; is_bits = bits_int; below = below_int; numbers = refl }

module _ (w : Width) (t : ItemType) (h : Holds w t) where
  -- bits that are read as a number of the type
  pub read : (r : ℕ) → r < 2 ^ bits w → to_z w r ≡ wrap t (pos r)
  unfolding int_wrap
  read r lt = ap (to_z w) (sym (mod-eq_of_lt lt)) ∙ sym (h.wraps (pos r))

  pub added : (x y : ℤ) → SFits w x → SFits w y → to_z w ((of_z w x + of_z w y) % 2 ^ bits w) ≡ wrap t (x +ℤ y)
  added x y p q = wrapping_add_is w x y p q ∙ sym (h.wraps (x +ℤ y))

  pub multiplied : (x y : ℤ) → SFits w x → SFits w y → to_z w ((of_z w x * of_z w y) % 2 ^ bits w) ≡ wrap t (x *ℤ y)
  multiplied x y p q = wrapping_mul_is w x y p q ∙ sym (h.wraps (x *ℤ y))

  pub joined_bits : (op : ℕ → ℕ → ℕ) → Keeps op (bits w) → (x y : ℤ) → SFits w x → SFits w y → to_z w (op (of_z w x) (of_z w y)) ≡ bits_joined op t x y
  joined_bits op k x y p q =
      read (op (of_z w x) (of_z w y)) (k.below _ _ (h.below x p) (h.below y q)) ∙ sym (λ i. wrap t (pos (op (h.is_bits x p i) (h.is_bits y q i))))

  pub turned_bits : (x : ℤ) → SFits w x → to_z w ((2 ^ bits w - 1) - of_z w x) ≡ turned t x
  turned_bits x p = read ((2 ^ bits w - 1) - of_z w x) (omega (arith, h.below x p)) ∙ sym (λ i. wrap t (pos (h.numbers i - 1 - h.is_bits x p i)))

-- ---- bytes

pub joined_bytes : (op : ℕ → ℕ → ℕ) → Keeps op 8 → (x y : ℕ) → IsItem Byte (pos x) → IsItem Byte (pos y) → pos (op x y) ≡ bits_joined op Byte (pos x) (pos y)
joined_bytes op k x y p q =
    let below : op x y < 2 ^ 8 = k.below x y (byte_below x p) (byte_below y q) in
    let first : x ≡ x % 256 = omega (arith, byte_below x p) in
    let second : y ≡ y % 256 = omega (arith, byte_below y q) in
    let same : op x y ≡ op x y % 256 = omega arith in
    ap pos same ∙ (λ i. pos (op (first i) (second i) % 256))

pub turned_byte : (x : ℕ) → IsItem Byte (pos x) → pos (255 - x) ≡ turned Byte (pos x)
turned_byte x p = let below : x < 256 = byte_below x p in ap pos (omega arith)
