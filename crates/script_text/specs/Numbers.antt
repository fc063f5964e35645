-- Numbers as they are written in a line.
use Rattle.std.specs.Prelude.{ℕ, zero, suc, ◌+◌, ◌-◌, ◌*◌, ℤ, pos, negsuc, List, [], ◌∷◌, Bool, ◌&&◌, ◌==◌, nat_le, if◌then◌else◌, Option, Some, None}
use Rattle.std.specs.Option.{option_map}

abbrev pub minus_sign : ℕ
minus_sign = 45

abbrev pub is_digit : ℕ → Bool
is_digit b = nat_le 48 b && nat_le b 57

-- the number that decimal digits spell, behind others that spell n. No other byte may stand among them
abbrev pub digits_after : ℕ → List ℕ → Option ℕ
digits_after n [] = Some n
digits_after n (b ∷ bs) = if is_digit b then digits_after (10 * n + (b - 48)) bs else None

-- the number that the bytes spell: one digit or more, also with zeros in front
abbrev pub natural_of : List ℕ → Option ℕ
natural_of [] = None
natural_of (b ∷ bs) = digits_after 0 (b ∷ bs)

-- the number, if it lies in the range
abbrev pub within : ℕ → ℕ → Option ℕ → Option ℕ
within least greatest None = None
within least greatest (Some n) = if nat_le least n && nat_le n greatest then Some n else None

-- an item's number: 64 bits
abbrev pub offset_of : List ℕ → Option ℕ
offset_of bytes = within 0 18446744073709551615 (natural_of bytes)

-- how many at most: at least one
abbrev pub max_of : List ℕ → Option ℕ
max_of bytes = within 1 4294967295 (natural_of bytes)

abbrev pub negated : ℕ → ℤ
negated zero = pos 0
negated (suc n) = negsuc n

-- a signed number of 64 bits: digits, with a minus sign or nothing in front
abbrev pub integer_of : List ℕ → Option ℤ
integer_of [] = None
integer_of (b ∷ bs) =
    if b == minus_sign then option_map negated (within 0 9223372036854775808 (natural_of bs))
    else option_map pos (within 0 9223372036854775807 (natural_of (b ∷ bs)))
