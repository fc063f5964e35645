-- Names: short texts of few characters.
use Rattle.std.specs.Prelude.{ℕ, ◌<◌, ◌≤◌, Bool, ◌==◌, ◌||◌, ◌&&◌, nat_le, if◌then◌else◌, List, length, All, IsTrue, Option, Some, None}
use Rattle.std.specs.List.{list_all}
use Rattle.std.specs.Char.{is_ascii_alphanumeric}

-- the byte is an ASCII letter, a digit, `_`, `.` or `-`
abbrev pub is_name_byte : ℕ → Bool
is_name_byte b = is_ascii_alphanumeric b || (b == 95) || (b == 46) || (b == 45)

-- a name of 1 to most bytes
pub record IsName (most : ℕ) (bytes : List ℕ) : Type 0 where
  pub some : 0 < length bytes
  pub short : length bytes ≤ most
  pub made : All (λ b. IsTrue (is_name_byte b)) bytes

-- the same as a test
abbrev pub is_name : ℕ → List ℕ → Bool
is_name most bytes = nat_le 1 (length bytes) && nat_le (length bytes) most && list_all is_name_byte bytes

-- the bytes, where they are a name
abbrev pub name_of : ℕ → List ℕ → Option (List ℕ)
name_of most bytes = if is_name most bytes then Some bytes else None
