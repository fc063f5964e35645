-- Items that are held from a place on.
use Rattle.std.specs.Prelude.{ℕ, zero, suc, ℤ, pos, List, if◌then◌else◌}
use Rattle.std.specs.Ordering.{int_eq}
use Rattle.stream_model.specs.Lists.{item}

-- the item of x at the last of the first n places where c is not 0, and z where there is no such place
abbrev pub held_from : ℤ → List ℤ → List ℤ → ℕ → ℤ
held_from z x c zero = z
held_from z x c (suc n) = if int_eq (item c n) (pos 0) then held_from z x c n else item x n
