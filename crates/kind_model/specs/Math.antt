-- The kinds of arithmetic, logic, tables and conversion: an item for an item.
use Rattle.std.specs.Ordering.{int_eq}
use Rattle.std.specs.Prelude.{ℕ, zero, suc, ◌+◌, ◌-◌, ◌*◌, ◌/◌, ◌%◌, ◌^◌, ℤ, pos, negsuc, ◌+ℤ◌, ◌-ℤ◌, ◌*ℤ◌, List, [], ◌∷◌, length, map, min, max, Some, slice_index_or, unsigned_abs, nat_le, int_lt, if◌then◌else◌, bit_and, bit_or, bit_xor}
use Rattle.stream_model.specs.declared.vocabulary.ItemType.{ItemType}
use Rattle.stream_model.specs.declared.vocabulary.ItemType.TheVariants.{Byte, Short}
use Rattle.stream_model.specs.declared.vocabulary.Wanted.TheVariants as wanted
use Rattle.stream_model.specs.Numbers.{numbers_in, least_of, greatest_of, wrap, total}
use Rattle.stream_model.specs.Settings.{Number}
use Rattle.stream_model.specs.Lists.{item, item_before, sum_below}
use Rattle.kind_model.specs.Kernels.{scaled, bits_in, bits_joined, turned, divided, lesser, greater, absolute, clipped}
use Rattle.stream_model.specs.Meaning.{Meaning, input}
use Rattle.stream_model.specs.Shapes.{ports, any_ports, at_rate, sync, any_number, number_at}

-- each item plus the number in force, wrapped (GNU Radio manual; wrapping is own)
abbrev pub add_const : ItemType → ℤ → Meaning
add_const t v =
    record (sync t t) {
      setting = Some (any_number t);
      own = Some (Number v);
      out = λ ts xs p n. wrap t (item (input xs 0) n +ℤ number_at v ts n);
    }

-- each item times the number in force, wrapped (GNU Radio manual; wrapping is own)
abbrev pub multiply_const : ItemType → ℤ → Meaning
multiply_const t v =
    record (sync t t) {
      setting = Some (any_number t);
      own = Some (Number v);
      out = λ ts xs p n. wrap t (item (input xs 0) n *ℤ number_at v ts n);
    }

-- each item over the number in force, without what is behind the point, and 0 where that number is 0 (own)
abbrev pub divide_const : ItemType → ℤ → Meaning
divide_const t v =
    record (sync t t) {
      setting = Some (any_number t);
      own = Some (Number v);
      out = λ ts xs p n. divided t (item (input xs 0) n) (number_at v ts n);
    }

-- each item and the number in force, joined bit for bit (two's complement)
abbrev pub bitwise_const : (ℕ → ℕ → ℕ) → ItemType → ℤ → Meaning
bitwise_const op t v =
    record (sync t t) {
      setting = Some (any_number t);
      own = Some (Number v);
      out = λ ts xs p n. bits_joined op t (item (input xs 0) n) (number_at v ts n);
    }

-- bitwise and of each item and the number in force (GNU Radio manual)
abbrev pub and_const : ItemType → ℤ → Meaning
and_const t v = bitwise_const bit_and t v

-- bitwise or of each item and the number in force (own)
abbrev pub or_const : ItemType → ℤ → Meaning
or_const t v = bitwise_const bit_or t v

-- bitwise exclusive or of each item and the number in force (own)
abbrev pub xor_const : ItemType → ℤ → Meaning
xor_const t v = bitwise_const bit_xor t v

-- each item times the factor in force, over 2 ^ shift, rounded and saturated (own)
abbrev pub scale : ItemType → ℤ → ℕ → Meaning
scale t factor shift =
    record (sync t t) {
      setting = Some (any_number Short);
      own = Some (Number factor);
      out = λ ts xs p n. scaled t (number_at factor ts n) shift (item (input xs 0) n);
    }

-- items n of all inputs
abbrev pub items_at : List (List ℤ) → ℕ → List ℤ
items_at xs n = map (λ (x : List ℤ). item x n) xs

-- the sum of the inputs' items, wrapped (GNU Radio manual; wrapping is own)
abbrev pub add : ItemType → Meaning
add t = record (at_rate (any_ports t) (ports 1 t) 1 1) { out = λ ts xs p n. wrap t (total (items_at xs n)) }

-- the product of a list
abbrev pub product : List ℤ → ℤ
product [] = pos 1
product (z ∷ zs) = z *ℤ product zs

-- the product of the inputs' items, wrapped (GNU Radio manual; wrapping is own)
abbrev pub multiply : ItemType → Meaning
multiply t = record (at_rate (any_ports t) (ports 1 t) 1 1) { out = λ ts xs p n. wrap t (product (items_at xs n)) }

-- the first number of a list less the others (GNU Radio manual), and of one number its negative (own)
abbrev pub difference : List ℤ → ℤ
difference [] = pos 0
difference (z ∷ []) = pos 0 -ℤ z
difference (z ∷ y ∷ zs) = z -ℤ total (y ∷ zs)

-- the difference of the inputs' items, wrapped (GNU Radio manual for two inputs and more; the negative of one input,
-- and wrapping, are own)
abbrev pub sub : ItemType → Meaning
sub t = record (at_rate (any_ports t) (ports 1 t) 1 1) { out = λ ts xs p n. wrap t (difference (items_at xs n)) }

-- y over the first number of a list, that over the second, and so on
abbrev pub divided_by : ItemType → ℤ → List ℤ → ℤ
divided_by t y [] = y
divided_by t y (z ∷ zs) = divided_by t (divided t y z) zs

-- the first number of a list over all others in turn
abbrev pub quotient : ItemType → List ℤ → ℤ
quotient t [] = pos 0
quotient t (z ∷ zs) = divided_by t z zs

-- the item of the first input over those of the others in turn (GNU Radio manual; wrapping and the quotient by 0 are
-- own)
abbrev pub divide : ItemType → Meaning
divide t = record (at_rate (any_ports t) (ports 1 t) 1 1) { out = λ ts xs p n. quotient t (items_at xs n) }

-- the least number of a list, and at most this one
abbrev pub least_up_to : ℤ → List ℤ → ℤ
least_up_to most [] = most
least_up_to most (z ∷ zs) = lesser z (least_up_to most zs)

-- the least of the inputs' items (GNU Radio manual)
abbrev pub minimum : ItemType → Meaning
minimum t = record (at_rate (any_ports t) (ports 1 t) 1 1) {
  out = λ ts xs p n. least_up_to (greatest_of t)
      (items_at xs n);
}

-- the greatest number of a list, and at least this one
abbrev pub greatest_down_to : ℤ → List ℤ → ℤ
greatest_down_to least [] = least
greatest_down_to least (z ∷ zs) = greater z (greatest_down_to least zs)

-- the greatest of the inputs' items (GNU Radio manual)
abbrev pub maximum : ItemType → Meaning
maximum t = record (at_rate (any_ports t) (ports 1 t) 1 1) {
  out = λ ts xs p n. greatest_down_to (least_of t)
      (items_at xs n);
}

-- the bits of all numbers of a list, joined bit for bit by op, where `none` joins to nothing new
abbrev pub all_bits : (ℕ → ℕ → ℕ) → ℕ → ItemType → List ℤ → ℕ
all_bits op none t [] = none
all_bits op none t (z ∷ zs) = op (bits_in t z) (all_bits op none t zs)

-- the inputs' items, joined bit for bit (two's complement)
abbrev pub bitwise : (ℕ → ℕ → ℕ) → ℕ → ItemType → Meaning
bitwise op none t = record (at_rate (any_ports t) (ports 1 t) 1 1) {
  out = λ ts xs p n. wrap t
      (pos (all_bits op none t (items_at xs n)));
}

-- bitwise and of the inputs' items (GNU Radio manual)
abbrev pub and_of : ItemType → Meaning
and_of t = bitwise bit_and (numbers_in t - 1) t

-- bitwise or of the inputs' items (GNU Radio manual)
abbrev pub or_of : ItemType → Meaning
or_of t = bitwise bit_or 0 t

-- bitwise exclusive or of the inputs' items (GNU Radio manual)
abbrev pub xor_of : ItemType → Meaning
xor_of t = bitwise bit_xor 0 t

-- the item of x at the last of the first n places where c is not 0, and 0 where there is no such place
abbrev pub last_taken : List ℤ → List ℤ → ℕ → ℤ
last_taken x c zero = pos 0
last_taken x c (suc n) = if int_eq (item c n) (pos 0) then last_taken x c n else item x n

-- the item of the first input at the last place where the second is not 0, and 0 before there is one (GNU Radio manual,
-- whose second input has bytes; wrapping, which changes no item of the type, is own); the word has the bits of the last
-- output
abbrev pub sample_and_hold : ItemType → Meaning
sample_and_hold t =
    record (at_rate (ports 2 t) (ports 1 t) 1 1) {
      word = λ ts xs k. bits_in t (last_taken (input xs 0) (input xs 1) k);
      out = λ ts xs p n. wrap t (last_taken (input xs 0) (input xs 1) (suc n));
    }

-- each item with all bits turned (GNU Radio manual)
abbrev pub not_of : ItemType → Meaning
not_of t = record (sync t t) { out = λ ts xs p n. turned t (item (input xs 0) n) }

-- each item without its sign, wrapped (GNU Radio manual; wrapping is own)
abbrev pub abs : ItemType → Meaning
abs t = record (sync t t) { out = λ ts xs p n. absolute t (item (input xs 0) n) }

-- the nearest number from low to high (own)
abbrev pub clip : ItemType → ℤ → ℤ → Meaning
clip t low high = record (sync t t) { out = λ ts xs p n. clipped low high (item (input xs 0) n) }

-- 0 where the first number is above 0, and else z
abbrev pub muted : ℤ → ℤ → ℤ
muted on z = if int_lt (pos 0) on then pos 0 else z

-- zeros while 1 is in force, and each item while 0 is (GNU Radio manual)
abbrev pub mute : ItemType → ℤ → Meaning
mute t on =
    record (sync t t) {
      setting = Some (wanted.Number (pos 0) (pos 1));
      own = Some (Number on);
      out = λ ts xs p n. muted (number_at on ts n) (item (input xs 0) n);
    }

-- the entry of a table at z, or z itself past the table's end
abbrev pub looked_up : List ℤ → ℤ → ℤ
looked_up table (pos n) = slice_index_or table n (pos n)
looked_up table (negsuc n) = negsuc n

-- each byte through a table, unchanged where the table is shorter (GNU Radio manual; short tables as in its block)
abbrev pub map_bb : List ℤ → Meaning
map_bb table = record (sync Byte Byte) { out = λ ts xs p n. looked_up table (item (input xs 0) n) }

-- the number of a list at a byte, and the last of the list behind its end
abbrev pub number_for : List ℤ → ℤ → ℤ
number_for values z = item values (min (unsigned_abs z) (length values - 1))

-- for each byte a number of another type (GNU Radio manual: chunks_to_symbols; bytes behind the end are own)
abbrev pub table : ItemType → List ℤ → Meaning
table to values = record (sync Byte to) { out = λ ts xs p n. number_for values (item (input xs 0) n) }

-- 1 where z is at least the threshold, and else 0
abbrev pub sliced : ℤ → ℤ → ℤ
sliced threshold z = if int_lt z threshold then pos 0 else pos 1

-- a byte for each item: whether it is at least the threshold (GNU Radio manual, where the threshold is 0)
abbrev pub binary_slicer : ItemType → ℤ → Meaning
binary_slicer t threshold = record (sync t Byte) { out = λ ts xs p n. sliced threshold (item (input xs 0) n) }

-- how many of the first k numbers 256, 512, 1024 and so on are at most m
abbrev pub doublings : ℕ → ℕ → ℕ
doublings m zero = 0
doublings m (suc k) = doublings m k + (if nat_le (256 * 2 ^ k) m then 1 else 0)

-- the segment of a magnitude: 0 below 256, and one more for each power of two from there on, up to 7 (ITU-T G.711)
abbrev pub segment : ℕ → ℕ
segment m = doublings m 7

-- the four bits of a magnitude below its highest one, where that is bit s + 7 (ITU-T G.711)
abbrev pub interval : ℕ → ℕ → ℕ
interval s m = m / 2 ^ (s + 3) % 16

-- the byte of a number by the mu-law: sign, segment and interval, all bits turned, of the magnitude plus 132, at most
-- 32767 (ITU-T G.711)
abbrev pub mu_law : ℤ → ℤ
mu_law z =
    let m = min (unsigned_abs z + 132) 32767 in
    pos ((if int_lt z (pos 0) then 127 else 255) - (16 * segment m + interval (segment m) m))

-- each item as a byte by the mu-law (GNU Radio manual, of shorts)
abbrev pub ulaw_encode : ItemType → Meaning
ulaw_encode t = record (sync t Byte) { out = λ ts xs p n. mu_law (item (input xs 0) n) }

-- sign, segment and interval of a magnitude, where segment 0 is as wide as segment 1 (ITU-T G.711)
abbrev pub a_law_parts : ℕ → ℕ → ℕ
a_law_parts sign m = sign + (16 * segment m + interval (max (segment m) 1) m)

-- the byte of a number by the A-law: these three of the magnitude, at most 32767, or of one 8 less below 0, every
-- second bit turned (ITU-T G.711)
abbrev pub a_law : ℤ → ℤ
a_law z = wrap Byte (pos (bit_xor (if int_lt z (pos 0) then a_law_parts 0
    (min (unsigned_abs z - 8) 32767) else a_law_parts 128 (min (unsigned_abs z) 32767)) 85))

-- each item as a byte by the A-law (GNU Radio manual, of shorts; its block gives another byte from -7 to -1)
abbrev pub alaw_encode : ItemType → Meaning
alaw_encode t = record (sync t Byte) { out = λ ts xs p n. a_law (item (input xs 0) n) }

-- each item as the number of the other type that equals it modulo 2 to that type's bits (own)
abbrev pub convert : ItemType → ItemType → Meaning
convert from to = record (sync from to) { out = λ ts xs p n. wrap to (item (input xs 0) n) }

-- the sum of the last `length` items, wrapped (GNU Radio manual; wrapping is own)
abbrev pub moving_sum : ItemType → ℕ → Meaning
moving_sum t length = record (sync t t) {
  history = length;
  out = λ ts xs p n. wrap t
      (sum_below length (item_before (input xs 0) n));
}
