-- The code of a number by the A-law, whose sign and magnitude are chosen apart.
use Rattle.std.proofs.Common.{◌≡◌, ℕ, ◌-◌, refl, Bool, true, false, if◌then◌else◌, min}
use Rattle.kind_model.specs.Math.{a_law_parts}

pub a_law_chosen : (negative : Bool) (m : ℕ) → a_law_parts (if negative then 0 else 128) (min (if negative then m - 8 else m) 32767)
    ≡ (if negative then a_law_parts 0 (min (m - 8) 32767) else a_law_parts 128 (min m 32767))
a_law_chosen true m = refl
a_law_chosen false m = refl
