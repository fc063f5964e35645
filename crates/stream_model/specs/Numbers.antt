-- Numbers of an item's type. An item is a whole number in its type's range.
use Rattle.std.specs.Prelude.{ℕ, Bool, true, false, ◌-◌, ◌/◌, ◌%◌, ◌^◌, ℤ, pos, negsuc, ◌≤ℤ◌, ◌+ℤ◌, int_lt, nat_lt, ◌==◌, if◌then◌else◌, List, [], ◌∷◌, All}
use Rattle.stream_model.specs.declared.vocabulary.ItemType.{ItemType}
use Rattle.stream_model.specs.declared.vocabulary.ItemType.TheVariants.{Byte, Short, Int}

-- how many bits an item has
abbrev pub bits_of : ItemType → ℕ
bits_of Byte = 8
bits_of Short = 16
bits_of Int = 32

-- two types are one: types differ in how many bits an item has
abbrev pub types_agree : ItemType → ItemType → Bool
types_agree s t = bits_of s == bits_of t

-- how many numbers the type has
abbrev pub numbers_in : ItemType → ℕ
numbers_in t = 2 ^ bits_of t

-- the ends of the type's range
abbrev pub least_of : ItemType → ℤ
least_of Byte = pos 0
least_of Short = negsuc 32767
least_of Int = negsuc 2147483647

abbrev pub greatest_of : ItemType → ℤ
greatest_of Byte = pos 255
greatest_of Short = pos 32767
greatest_of Int = pos 2147483647

-- z lies in the type's range
pub record IsItem (t : ItemType) (z : ℤ) : Type 0 where
  pub above : least_of t ≤ℤ z
  pub below : z ≤ℤ greatest_of t

-- each number of a list lies in the type's range
abbrev pub AreItems : ItemType → List ℤ → Type 0
AreItems t xs = All (IsItem t) xs

-- z modulo m, never negative: the r below m with z = q * m + r for a whole q
abbrev pub residue : ℤ → ℕ → ℕ
residue (pos n) m = n % m
residue (negsuc n) m = m - 1 - n % m

-- z divided by m, rounded down
abbrev pub floor_div : ℤ → ℕ → ℤ
floor_div (pos n) m = pos (n / m)
floor_div (negsuc n) m = negsuc (n / m)

-- the number below m as a number of half the range on each side of 0, as two's complement has it
abbrev pub centred : ℕ → ℕ → ℤ
centred m r = if nat_lt r (m / 2) then pos r else negsuc (m - 1 - r)

-- the number of the type's range that equals z modulo the number of values
abbrev pub wrap : ItemType → ℤ → ℤ
wrap Byte z = pos (residue z 256)
wrap Short z = centred 65536 (residue z 65536)
wrap Int z = centred 4294967296 (residue z 4294967296)

-- z, or the nearest end of the type's range
abbrev pub sat : ItemType → ℤ → ℤ
sat t z = if int_lt z (least_of t) then least_of t else if int_lt (greatest_of t) z then greatest_of t else z

-- z divided by 2 ^ s, rounded to the nearest whole number; ties round up
abbrev pub rnd : ℤ → ℕ → ℤ
rnd z s = if s == 0 then z else floor_div (z +ℤ pos (2 ^ (s - 1))) (2 ^ s)

-- the sum of a list
abbrev pub total : List ℤ → ℤ
total [] = pos 0
total (x ∷ xs) = x +ℤ total xs
