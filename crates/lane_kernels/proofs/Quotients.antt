-- Quotients of items, which no machine word is too small for.
use Rattle.std.specs.Prelude.{◌≡◌, ◌≤◌, refl, suc, ℤ, pos, negsuc, Bool, true, false, unsigned_abs, if◌then◌else◌}
use Rattle.std.specs.Ordering.{int_eq}
use Rattle.std.specs.Cmp.{signed_Decides}
use Rattle.std.specs.Int.RustNames.{int_div}
use Rattle.std.proofs.Common.{ap, arith}
use Rattle.std.proofs.Math.Nat.{div-le_self}
use Rattle.std.proofs.lemmas.Int.{ints}
use Rattle.stream_model.specs.declared.vocabulary.ItemType.{ItemType}
use Rattle.stream_model.specs.declared.vocabulary.ItemType.TheVariants.{Byte, Short, Int}
use Rattle.stream_model.specs.Numbers.{IsItem, wrap}
use Rattle.kind_model.specs.Kernels.{divided}

not_zero : (z : ℤ) → (z ≡ pos 0 → ⊥) → int_eq z (pos 0) ≡ false
not_zero z not = tested (int_eq z (pos 0)) refl
  where
    tested : (b : Bool) → int_eq z (pos 0) ≡ b → int_eq z (pos 0) ≡ false
    tested true e = absurd (not ((signed_Decides z (pos 0)).0 e))
    tested false e = e

pub divided_is : (t : ItemType) (y z : ℤ) → (z ≡ pos 0 → ⊥) → divided t y z ≡ wrap t (int_div y z)
divided_is t y z not = ap (λ b. if b then pos 0 else wrap t (int_div y z)) (not_zero z not)

-- no quotient is further from 0 than what is divided
pub quotient_within : (y z : ℤ) → unsigned_abs (int_div y z) ≤ unsigned_abs y
quotient_within (pos a) (pos b) = div-le_self a b
quotient_within (pos a) (negsuc b) = omega (arith, ints, div-le_self a (suc b))
quotient_within (negsuc a) (pos b) = omega (arith, ints, div-le_self (suc a) b)
quotient_within (negsuc a) (negsuc b) = div-le_self (suc a) (suc b)

-- an item of any type is near 0
pub item_within : (t : ItemType) (z : ℤ) → IsItem t z → unsigned_abs z ≤ 2147483648
item_within Byte z is = omega (arith, ints, is.above, is.below)
item_within Short z is = omega (arith, ints, is.above, is.below)
item_within Int z is = omega (arith, ints, is.above, is.below)
