-- The list definitions of the kernels: what is computed from whole lists, item for item, for every length.
use Rattle.std.specs.Ordering.{int_eq}
use Rattle.std.specs.Int.RustNames.{int_div}
use Rattle.std.specs.Prelude.{ℕ, zero, suc, ◌+◌, ◌-◌, ◌*◌, ◌/◌, ◌%◌, ◌^◌, ℤ, pos, ◌+ℤ◌, ◌-ℤ◌, ◌*ℤ◌, List, length, unsigned_abs, int_lt, if◌then◌else◌, bit_and, bit_or, bit_xor}
use Rattle.stream_model.specs.declared.vocabulary.ItemType.{ItemType}
use Rattle.stream_model.specs.Numbers.{numbers_in, residue, floor_div, wrap, sat, rnd}
use Rattle.stream_model.specs.Lists.{listed, sum_below, item}

-- item n of the output is a[n] + b[n], wrapped (own)
abbrev pub add_wrap : ItemType → List ℤ → List ℤ → List ℤ
add_wrap t a b = listed (length a) (λ n. wrap t (item a n +ℤ item b n))

-- item n of the output is a[n] + c, wrapped (own)
abbrev pub add_const_wrap : ItemType → List ℤ → ℤ → List ℤ
add_const_wrap t a c = listed (length a) (λ n. wrap t (item a n +ℤ c))

-- item n of the output is a[n] * c, wrapped (own)
abbrev pub mul_wrap : ItemType → List ℤ → ℤ → List ℤ
mul_wrap t a c = listed (length a) (λ n. wrap t (item a n *ℤ c))

-- item n of the output is a[n] * b[n], wrapped (own)
abbrev pub multiply_wrap : ItemType → List ℤ → List ℤ → List ℤ
multiply_wrap t a b = listed (length a) (λ n. wrap t (item a n *ℤ item b n))

-- item n of the output is a[n] - b[n], wrapped (own)
abbrev pub sub_wrap : ItemType → List ℤ → List ℤ → List ℤ
sub_wrap t a b = listed (length a) (λ n. wrap t (item a n -ℤ item b n))

-- y over z without what is behind the point, wrapped, and 0 where z is 0 (GNU Radio manual: divide; wrapping and the
-- quotient by 0 are own)
abbrev pub divided : ItemType → ℤ → ℤ → ℤ
divided t y z = if int_eq z (pos 0) then pos 0 else wrap t (int_div y z)

-- item n of the output is a[n] over b[n]
abbrev pub divide : ItemType → List ℤ → List ℤ → List ℤ
divide t a b = listed (length a) (λ n. divided t (item a n) (item b n))

-- item n of the output is a[n] over c
abbrev pub divide_const : ItemType → List ℤ → ℤ → List ℤ
divide_const t a c = listed (length a) (λ n. divided t (item a n) c)

-- the lesser of two numbers, and the greater
abbrev pub lesser : ℤ → ℤ → ℤ
lesser y z = if int_lt z y then z else y

abbrev pub greater : ℤ → ℤ → ℤ
greater y z = if int_lt y z then z else y

-- item n of the output is the lesser of a[n] and b[n]
abbrev pub minimum : List ℤ → List ℤ → List ℤ
minimum a b = listed (length a) (λ n. lesser (item a n) (item b n))

-- item n of the output is the greater of a[n] and b[n]
abbrev pub maximum : List ℤ → List ℤ → List ℤ
maximum a b = listed (length a) (λ n. greater (item a n) (item b n))

-- z without its sign, wrapped
abbrev pub absolute : ItemType → ℤ → ℤ
absolute t z = wrap t (pos (unsigned_abs z))

-- item n of the output is a[n] without its sign, wrapped (own)
abbrev pub abs_wrap : ItemType → List ℤ → List ℤ
abs_wrap t a = listed (length a) (λ n. absolute t (item a n))

-- z, or the nearer of two ends
abbrev pub clipped : ℤ → ℤ → ℤ → ℤ
clipped low high z = if int_lt z low then low else if int_lt high z then high else z

-- item n of the output is a[n], or the nearer of two ends
abbrev pub clip : List ℤ → ℤ → ℤ → List ℤ
clip a low high = listed (length a) (λ n. clipped low high (item a n))

-- z * factor / 2 ^ shift, rounded (ties round up) and saturated (textbook fixed-point arithmetic)
abbrev pub scaled : ItemType → ℤ → ℕ → ℤ → ℤ
scaled t factor shift z = sat t (rnd (z *ℤ factor) shift)

-- item n of the output is a[n], scaled (own)
abbrev pub scale_sat : ItemType → List ℤ → ℤ → ℕ → List ℤ
scale_sat t a factor shift = listed (length a) (λ n. scaled t factor shift (item a n))

-- the bits of a number of the type: the number below 2 to their count that equals it modulo that (two's complement)
abbrev pub bits_in : ItemType → ℤ → ℕ
bits_in t z = residue z (numbers_in t)

-- item n of the output has the bits of a[n] and b[n], joined bit for bit by op (two's complement)
abbrev pub joined_bits : (ℕ → ℕ → ℕ) → ItemType → List ℤ → List ℤ → List ℤ
joined_bits op t a b = listed (length a) (λ n. wrap t (pos (op (bits_in t (item a n)) (bits_in t (item b n)))))

-- bitwise and
abbrev pub and_bits : ItemType → List ℤ → List ℤ → List ℤ
and_bits t a b = joined_bits bit_and t a b

-- bitwise or
abbrev pub or_bits : ItemType → List ℤ → List ℤ → List ℤ
or_bits t a b = joined_bits bit_or t a b

-- bitwise exclusive or
abbrev pub xor_bits : ItemType → List ℤ → List ℤ → List ℤ
xor_bits t a b = joined_bits bit_xor t a b

-- the number whose bits are those of y and z, joined bit for bit by op (two's complement)
abbrev pub bits_joined : (ℕ → ℕ → ℕ) → ItemType → ℤ → ℤ → ℤ
bits_joined op t y z = wrap t (pos (op (bits_in t y) (bits_in t z)))

-- item n of the output has the bits of a[n] and c, joined bit for bit by op
abbrev pub joined_bits_const : (ℕ → ℕ → ℕ) → ItemType → List ℤ → ℤ → List ℤ
joined_bits_const op t a c = listed (length a) (λ n. bits_joined op t (item a n) c)

-- the number whose bits are those of z, all turned (two's complement)
abbrev pub turned : ItemType → ℤ → ℤ
turned t z = wrap t (pos (numbers_in t - 1 - bits_in t z))

-- item n of the output is a[n], all bits turned
abbrev pub not_bits : ItemType → List ℤ → List ℤ
not_bits t a = listed (length a) (λ n. turned t (item a n))

-- the sum over j of h[j] * x[j] (textbook dot product)
abbrev pub dot : List ℤ → List ℤ → ℤ
dot h x = sum_below (length h) (λ j. item h j *ℤ item x j)

-- with L taps h, item n of the output is the sum over j < L of h[j] * x[n + L - 1 - j], over 2 ^ shift, rounded and
-- saturated: x begins with the L - 1 items before the first (textbook FIR)
abbrev pub fir_row : ItemType → List ℤ → List ℤ → ℕ → List ℤ
fir_row t h x shift =
    listed (length x - (length h - 1)) (λ n. sat t (rnd (sum_below (length h)
    (λ j. item h j *ℤ item x (n + length h - 1 - j))) shift))

-- the number whose k bits, the highest first, are the lowest bits of items n * k to n * k + k - 1 (GNU Radio manual:
-- pack_k_bits)
abbrev pub packed : ℕ → List ℤ → ℕ → ℤ
packed k x n = sum_below k (λ j. pos (residue (item x (n * k + j)) 2 * 2 ^ (k - 1 - j)))

-- bit n mod k, counted from the highest of k bits, of item floor (n / k) (GNU Radio manual: unpack_k_bits)
abbrev pub unpacked : ℕ → List ℤ → ℕ → ℤ
unpacked k x n = pos (residue (floor_div (item x (n / k)) (2 ^ (k - 1 - n % k))) 2)

-- item n of the output has the lowest bits of k items: one item for each k (GNU Radio manual: pack_k_bits)
abbrev pub pack_bits : ℕ → List ℤ → List ℤ
pack_bits k x = listed (length x / k) (packed k x)

-- item n of the output is one bit: k items for each (GNU Radio manual: unpack_k_bits)
abbrev pub unpack_bits : ℕ → List ℤ → List ℤ
unpack_bits k x = listed (k * length x) (unpacked k x)

-- item n of a list, where `before` stands before item 0
abbrev pub previous : ℤ → List ℤ → ℕ → ℤ
previous before x zero = before
previous before x (suc n) = item x n

-- item n of the output is (x[n] - x[n - 1]) mod m, where `before` stands before x[0] (GNU Radio manual: diff_decoder)
abbrev pub diff_decode : ℕ → ℤ → List ℤ → List ℤ
diff_decode m before x = listed (length x) (λ n. pos (residue (item x n -ℤ previous before x n) m))

-- item n of the output is the number of type `to` that equals a[n] modulo 2 to the bits of `to`: a[n] itself where it
-- widens (own)
abbrev pub convert : ItemType → List ℤ → List ℤ
convert to a = listed (length a) (λ n. wrap to (item a n))
