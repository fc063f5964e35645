-- The kinds that see the bits of items as one stream are lawful.
use Rattle.std.specs.Prelude.{ℕ, zero, suc, ◌+◌, ◌-◌, ◌*◌, ◌/◌, ◌%◌, ◌^◌, ◌<◌, ◌≤◌, ◌≡◌, ℤ, pos, List, Bool, true, false, ◌==◌, ◌&&◌, if◌then◌else◌, nat_le, take, refl}
use Rattle.std.proofs.Common.{ap, ap₂, sym, arith}
use Rattle.std.proofs.lemmas.Bool.Decides.{nat_tests}
use Rattle.std.proofs.lemmas.Nat.{div_below, mul-le}
use Rattle.stream_model.specs.declared.vocabulary.ItemType.{ItemType}
use Rattle.stream_model.specs.declared.vocabulary.ItemType.TheVariants.{Byte, Short, Int}
use Rattle.kind_model.specs.declared.vocabulary.BitOrder.{BitOrder}
use Rattle.kind_model.specs.declared.vocabulary.BitOrder.TheVariants.{MsbFirst}
use Rattle.stream_model.specs.Numbers.{bits_of, residue, wrap}
use Rattle.stream_model.specs.Lists.{item, item_before}
use Rattle.stream_model.specs.Meaning.{input, IsLawful}
use Rattle.kind_model.specs.BitStreams.{place_by, number_by, stream_bit, repacked, divisor_up_to, common_divisor, repacking, repack_bits, packed_to_unpacked, unpacked_to_packed, bit_before, word_before, distance, is_behind_code, correlate_access_code}
use Rattle.shape_laws.specs.Shaped.{residue-less, IsItem-wrap, item-same, past-same, map-same, IsRate, one_for_one, shaped-lawful}
use Rattle.kind_laws.specs.Bits.{IsItem-byte}

-- d divides both numbers
pub record IsDivisor (a b d : ℕ) : Type 0 where
  pub some : 1 ≤ d
  pub first : a / d * d ≡ a
  pub second : b / d * d ≡ b

-- what the search finds divides both
divisor-divides : (a b most : ℕ) → IsDivisor a b (divisor_up_to a b most)
divisor-divides a b zero = record { some = omega arith; first = omega arith; second = omega arith }
divisor-divides a b (suc d) = choose (divisor-divides a b d) ((a % suc d == 0) && (b % suc d == 0)) refl
  where
    choose : IsDivisor a b (divisor_up_to a b d) → (c : Bool) → ((a % suc d == 0) && (b % suc d == 0)) ≡ c
        → IsDivisor a b (if c then suc d else divisor_up_to a b d)
    choose below true e =
        let none : a % suc d ≡ 0 = grind (arith, nat_tests) in
        let no_more : b % suc d ≡ 0 = grind (arith, nat_tests) in
        record { some = omega arith; first = omega (arith, none); second = omega (arith, no_more) }
    choose below false e = below

pub common-divides : (a b : ℕ) → IsDivisor a b (common_divisor a b)
common-divides a b = divisor-divides a b a

-- the items that a firing takes have as many bits as those that it gives
pub same_bits : (k l : ℕ) → l / common_divisor k l * k ≡ k / common_divisor k l * l
same_bits k l = turned (common_divisor k l) (l / common_divisor k l) (k / common_divisor k l) k l
    (common-divides k l).first (common-divides k l).second
  where
    turned : (d q r k l : ℕ) → r * d ≡ k → q * d ≡ l → q * k ≡ r * l
    turned d q r k l whole more = rw (← whole, ← more) (grind arith)

-- a part of a number by its divisor is some, and no more than the number
part_some : (a d : ℕ) → a / d * d ≡ a → 1 ≤ a → 1 ≤ a / d
part_some a d whole some = grind arith

part_few : (a d : ℕ) → 1 ≤ d → a / d * d ≡ a → a / d ≤ a
part_few a d some whole = grind arith

-- a firing takes some items
pub repacking-some : (k l : ℕ) → 1 ≤ l → 1 ≤ l / common_divisor k l
repacking-some k l some = part_some l (common_divisor k l) (common-divides k l).second some

-- each bit of an item that the first firings give is one of those that they take
pub bit_of_firing : (d i k l c n b : ℕ) → 1 ≤ k → d * k ≡ i * l → n < i * c → b < n * l + l → b / k < d * c
bit_of_firing d i k l c n b some same before within =
    let next : (n + 1) * l ≤ i * c * l = mul-le (n + 1) l (i * c) l (omega arith) (omega arith) in
    let all : i * l * c ≡ d * k * c = ap (λ z. z * c) (sym same) in
    let turned : i * c * l ≡ i * l * c = grind arith in
    let back : d * k * c ≡ d * c * k = grind arith in
    div_below b k (d * c) some (omega (arith, next, all, turned, back))

-- the same items of streams whose items agree where their bits stand
repacked-same :
    (t : ItemType) (k l : ℕ) (o p : BitOrder) (x y : List ℤ) (n : ℕ)
    → ((b : ℕ) → n * l ≤ b → b < n * l + l → item x (b / k) ≡ item y (b / k)) →
    repacked t k l o p x n ≡ repacked t k l o p y n
repacked-same t k l o p x y n same =
    ap (λ z. wrap t (pos (number_by p z)))
    (map-same (stream_bit o k x) (stream_bit o k y) (n * l) l (λ b from to. ap
    (λ z. residue z (2 ^ k) / 2 ^ place_by o k (b % k) % 2) (same b from to)))

pub repacking-lawful : (t : ItemType) (k l : ℕ) (o p : BitOrder) → 1 ≤ k → k ≤ 32 → 1 ≤ l → l ≤ 32
    → IsLawful (repacking t k l o p)
repacking-lawful t k l o p some few some_out few_out =
    shaped-lawful _ _ _ _ _ _ _ _ _ _ rate (omega arith) (omega arith) refl (λ ts xs. refl)
    (λ ts xs port n h. IsItem-wrap t _)
    (λ ts us xs ys c port n settings inputs h.
    repacked-same t k l o p (input xs 0) (input ys 0) n
    (λ b from to.
    item-same (input xs 0) (input ys 0) (l / common_divisor k l * c) (b / k) (inputs.items 0)
    (bit_of_firing (l / common_divisor k l) (k / common_divisor k l) k l c n b some (same_bits k l) h to)))
    (λ ts us xs ys c settings inputs. refl)
  where
    rate : IsRate (l / common_divisor k l) (k / common_divisor k l)
    rate =
        let divides = common-divides k l in
        record {
          takes_some = part_some l (common_divisor k l) divides.second some_out;
          takes_few = omega (arith, part_few l (common_divisor k l) divides.some divides.second);
          gives_some = part_some k (common_divisor k l) divides.first some;
          gives_few = omega (arith, part_few k (common_divisor k l) divides.some divides.first);
        }

pub repack_bits-lawful : (k l : ℕ) (o : BitOrder) → 1 ≤ k → k ≤ 8 → 1 ≤ l → l ≤ 8 → IsLawful (repack_bits k l o)
repack_bits-lawful k l o some few some_out few_out = repacking-lawful Byte k l o o some (omega arith) some_out
    (omega arith)

-- a type has 8 to 32 bits
pub bits_some : (t : ItemType) → 1 ≤ bits_of t
bits_some Byte = omega arith
bits_some Short = omega arith
bits_some Int = omega arith

pub bits_few : (t : ItemType) → bits_of t ≤ 32
bits_few Byte = omega arith
bits_few Short = omega arith
bits_few Int = omega arith

pub packed_to_unpacked-lawful : (t : ItemType) (bits : ℕ) (o : BitOrder) → 1 ≤ bits → bits ≤ bits_of t
    → IsLawful (packed_to_unpacked t bits o)
packed_to_unpacked-lawful t bits o some few =
    repacking-lawful t (bits_of t) bits o MsbFirst (bits_some t) (bits_few t) some (omega (arith, few, bits_few t))

pub unpacked_to_packed-lawful : (t : ItemType) (bits : ℕ) (o : BitOrder) → 1 ≤ bits → bits ≤ bits_of t
    → IsLawful (unpacked_to_packed t bits o)
unpacked_to_packed-lawful t bits o some few =
    repacking-lawful t bits (bits_of t) MsbFirst o some (omega (arith, few, bits_few t)) (bits_some t) (bits_few t)

-- the past of an item that is among those that agree
bit_before-same : (x y : List ℤ) (k n back : ℕ) → take k x ≡ take k y → n < k → bit_before x n back
    ≡ bit_before y n back
bit_before-same x y k n back e h = ap (λ z. residue z 2) (past-same x y k n back e h)

word_before-same : (count : ℕ) (x y : List ℤ) (k n : ℕ) → take k x ≡ take k y → n < k → word_before count x n
    ≡ word_before count y n
word_before-same count x y k n e h = ap (number_by MsbFirst) (map-same _ _ 0 count
    (λ j from to. bit_before-same x y k n (64 + count - j) e h))

-- a bit is 0 or 1
is_behind_code-few : (code count threshold : ℕ) (x : List ℤ) (n : ℕ) → is_behind_code code count threshold x n ≤ 1
is_behind_code-few code count threshold x n = choose (nat_le count n && nat_le (distance (word_before count x n) code)
    threshold)
  where
    choose : (b : Bool) → (if b then 1 else 0) ≤ 1
    choose true = omega arith
    choose false = omega arith

pub correlate_access_code-lawful : (code count threshold : ℕ) → IsLawful (correlate_access_code code count threshold)
correlate_access_code-lawful code count threshold =
    shaped-lawful _ _ _ _ _ _ _ _ _ _ one_for_one (omega arith) (omega arith) refl (λ ts xs. refl)
    (λ ts xs p n h. IsItem-byte _ (omega (
      arith,
      residue-less (item_before (input xs 0) n 64) 2 (omega arith),
      is_behind_code-few code count threshold (input xs 0) n,
    )))
    (λ ts us xs ys k p n settings inputs h.
    ap₂ (λ (b : ℕ) (word : ℕ). pos (b + 2 * (if nat_le count n && nat_le (distance word code) threshold then 1 else 0)))
    (bit_before-same (input xs 0) (input ys 0) (1 * k) n 64 (inputs.items 0) h)
    (word_before-same count (input xs 0) (input ys 0) (1 * k) n (inputs.items 0) h))
    (λ ts us xs ys k settings inputs. refl)
