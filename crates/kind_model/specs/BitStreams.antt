-- The kinds that see the bits of items as one stream of bits.
use Rattle.std.specs.Prelude.{ℕ, zero, suc, ◌+◌, ◌-◌, ◌*◌, ◌/◌, ◌%◌, ◌^◌, ℤ, pos, List, [], ◌∷◌, length, map, ◌==◌, ◌&&◌, nat_le, if◌then◌else◌, bit_xor}
use Rattle.std.specs.Int.RustNames.{count_ones}
use Rattle.stream_model.specs.declared.vocabulary.ItemType.{ItemType}
use Rattle.stream_model.specs.declared.vocabulary.ItemType.TheVariants.{Byte}
use Rattle.kind_model.specs.declared.vocabulary.BitOrder.{BitOrder}
use Rattle.kind_model.specs.declared.vocabulary.BitOrder.TheVariants.{MsbFirst, LsbFirst}
use Rattle.stream_model.specs.Numbers.{bits_of, residue, wrap}
use Rattle.stream_model.specs.Lists.{numbers_from, below, listed, item, item_before}
use Rattle.stream_model.specs.Meaning.{Meaning, input}
use Rattle.stream_model.specs.Shapes.{ports, at_rate, sync}

-- where bit j of k stands: the first bit is the highest, or the lowest
abbrev pub place_by : BitOrder → ℕ → ℕ → ℕ
place_by MsbFirst k j = k - 1 - j
place_by LsbFirst k j = j

-- the number of these bits, of which the first is the highest, or the lowest
abbrev pub number_by : BitOrder → List ℕ → ℕ
number_by o [] = 0
number_by MsbFirst (b ∷ bs) = b * 2 ^ length bs + number_by MsbFirst bs
number_by LsbFirst (b ∷ bs) = b + 2 * number_by LsbFirst bs

-- bit n of the stream that the k lowest bits of each item make
abbrev pub stream_bit : BitOrder → ℕ → List ℤ → ℕ → ℕ
stream_bit o k x n = residue (item x (n / k)) (2 ^ k) / 2 ^ place_by o k (n % k) % 2

-- item n of those that have l bits of the stream each, of which the first is the highest, or the lowest
abbrev pub repacked : ItemType → ℕ → ℕ → BitOrder → BitOrder → List ℤ → ℕ → ℤ
repacked t k l o p x n = wrap t (pos (number_by p (map (stream_bit o k x) (numbers_from (n * l) l))))

-- so many of them
abbrev pub repack : ItemType → ℕ → ℕ → BitOrder → BitOrder → List ℤ → ℕ → List ℤ
repack t k l o p x count = listed count (repacked t k l o p x)

-- the greatest number up to `most` that divides both, 1 where there is none
abbrev pub divisor_up_to : ℕ → ℕ → ℕ → ℕ
divisor_up_to a b zero = 1
divisor_up_to a b (suc d) = if (a % suc d == 0) && (b % suc d == 0) then suc d else divisor_up_to a b d

-- the greatest number that divides both
abbrev pub common_divisor : ℕ → ℕ → ℕ
common_divisor a b = divisor_up_to a b a

-- the k lowest bits of each item, one after the other in order o, in items of l bits in order p; a firing takes the
-- fewest items whose bits fill whole ones
abbrev pub repacking : ItemType → ℕ → ℕ → BitOrder → BitOrder → Meaning
repacking t k l o p =
    record (at_rate (ports 1 t) (ports 1 t) (l / common_divisor k l) (k / common_divisor k l)) {
      out = λ ts xs _ n. repacked t k l o p (input xs 0) n;
    }

-- from k bits in a byte to l, in one order (GNU Radio manual)
abbrev pub repack_bits : ℕ → ℕ → BitOrder → Meaning
repack_bits k l o = repacking Byte k l o o

-- from all bits of an item, in this order, to so many, the first the highest (GNU Radio manual)
abbrev pub packed_to_unpacked : ItemType → ℕ → BitOrder → Meaning
packed_to_unpacked t bits o = repacking t (bits_of t) bits o MsbFirst

-- from so many bits in an item, the first the highest, to all in this order (GNU Radio manual)
abbrev pub unpacked_to_packed : ItemType → ℕ → BitOrder → Meaning
unpacked_to_packed t bits o = repacking t bits (bits_of t) MsbFirst o

-- the lowest bit of the item so many before item n, 0 before item 0
abbrev pub bit_before : List ℤ → ℕ → ℕ → ℕ
bit_before x n back = residue (item_before x n back) 2

-- the number of the lowest bits of the items 64 + count to 65 before item n, the first the highest
abbrev pub word_before : ℕ → List ℤ → ℕ → ℕ
word_before count x n = number_by MsbFirst (map (λ j. bit_before x n (64 + count - j)) (below count))

-- in how many bits two numbers differ (textbook Hamming distance)
abbrev pub distance : ℕ → ℕ → ℕ
distance a b = count_ones (bit_xor a b)

-- 1 at the item behind a word that differs from the code in few enough bits, 0 at each other; zeros before item 0 count
-- as bits of a word, and none of the first `count` items is marked
abbrev pub is_behind_code : ℕ → ℕ → ℕ → List ℤ → ℕ → ℕ
is_behind_code code count threshold x n =
    if nat_le count n && nat_le (distance (word_before count x n) code) threshold then 1 else 0

-- the lowest bit of the item 64 before in bit 0, and in bit 1 whether it is the first behind the code (GNU Radio
-- manual)
abbrev pub correlate_access_code : ℕ → ℕ → ℕ → Meaning
correlate_access_code code count threshold =
    record (sync Byte Byte) {
      history = 65 + count;
      out = λ ts xs p n. pos (bit_before (input xs 0) n 64 + 2 * is_behind_code code count threshold (input xs 0) n);
    }
