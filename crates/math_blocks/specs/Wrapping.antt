-- Lemmas on wrapped numbers.
use Rattle.std.proofs.Common.{◌≡◌, ℤ, pos, negsuc, ◌+ℤ◌, ◌*ℤ◌, arith, ap, sym, ◌∙◌}
use Rattle.std.specs.Int.{int_wrap, w8, w16, w32}
use Rattle.std.proofs.lemmas.Bool.Decides.{nat_tests}
use Rattle.std.proofs.lemmas.Int.{ints, int_wrap-add_right, int_wrap-mul_left}
use Rattle.stream_model.specs.declared.vocabulary.ItemType.{ItemType}
use Rattle.stream_model.specs.declared.vocabulary.ItemType.TheVariants.{Byte, Short, Int}
use Rattle.stream_model.specs.Numbers.{IsItem, wrap}

-- the signed types wrap as std has it
pub wrap_short : (z : ℤ) → wrap Short z ≡ int_wrap w16 z
unfolding int_wrap
wrap_short (pos n) = grind (arith, nat_tests)
wrap_short (negsuc n) = grind (arith, nat_tests)

pub wrap_int : (z : ℤ) → wrap Int z ≡ int_wrap w32 z
unfolding int_wrap
wrap_int (pos n) = grind (arith, nat_tests)
wrap_int (negsuc n) = grind (arith, nat_tests)

-- to wrap an addend first changes nothing
wrap_byte-add_right : (a b : ℤ) → wrap Byte (a +ℤ wrap Byte b) ≡ wrap Byte (a +ℤ b)
wrap_byte-add_right (pos a) (pos b) = ap pos (omega arith)
wrap_byte-add_right (pos a) (negsuc b) = grind (arith, ints)
wrap_byte-add_right (negsuc a) (pos b) = grind (arith, ints)
wrap_byte-add_right (negsuc a) (negsuc b) = grind (arith, ints)

pub wrap-add_right : (t : ItemType) (a b : ℤ) → wrap t (a +ℤ wrap t b) ≡ wrap t (a +ℤ b)
wrap-add_right Byte a b = wrap_byte-add_right a b
wrap-add_right Short a b = wrap_short (a +ℤ wrap Short b) ∙ ap (λ (z : ℤ). int_wrap w16 (a +ℤ z)) (wrap_short b) ∙
    int_wrap-add_right w16 a b ∙ sym (wrap_short (a +ℤ b))
wrap-add_right Int a b = wrap_int (a +ℤ wrap Int b) ∙ ap (λ (z : ℤ). int_wrap w32 (a +ℤ z)) (wrap_int b) ∙
    int_wrap-add_right w32 a b ∙ sym (wrap_int (a +ℤ b))

-- a byte wraps as the signed number with its bits
wrap_byte : (z : ℤ) → wrap Byte (int_wrap w8 z) ≡ wrap Byte z
unfolding int_wrap
wrap_byte (pos n) = grind (arith, nat_tests)
wrap_byte (negsuc n) = grind (arith, nat_tests)

wrap_byte-again : (z : ℤ) → int_wrap w8 (wrap Byte z) ≡ int_wrap w8 z
unfolding int_wrap
wrap_byte-again (pos n) = grind (arith, nat_tests)
wrap_byte-again (negsuc n) = grind (arith, nat_tests)

-- to wrap a factor first changes nothing
pub wrap-mul_left : (t : ItemType) (a b : ℤ) → wrap t (wrap t a *ℤ b) ≡ wrap t (a *ℤ b)
wrap-mul_left Byte a b =
    sym (wrap_byte (wrap Byte a *ℤ b))
    ∙ ap (wrap Byte) (sym (int_wrap-mul_left w8 (wrap Byte a) b) ∙ ap (λ (z : ℤ). int_wrap w8 (z *ℤ b))
    (wrap_byte-again a) ∙ int_wrap-mul_left w8 a b)
    ∙ wrap_byte (a *ℤ b)
wrap-mul_left Short a b = wrap_short (wrap Short a *ℤ b) ∙ ap (λ (z : ℤ). int_wrap w16 (z *ℤ b)) (wrap_short a) ∙
    int_wrap-mul_left w16 a b ∙ sym (wrap_short (a *ℤ b))
wrap-mul_left Int a b = wrap_int (wrap Int a *ℤ b) ∙ ap (λ (z : ℤ). int_wrap w32 (z *ℤ b)) (wrap_int a) ∙
    int_wrap-mul_left w32 a b ∙ sym (wrap_int (a *ℤ b))

-- an item is in its type's range already
pub wrap_own : (t : ItemType) (z : ℤ) → IsItem t z → wrap t z ≡ z
wrap_own Byte (pos n) h = ap pos (omega (arith, ints, h.below))
wrap_own Byte (negsuc n) h = absurd (omega (arith, ints, h.above))
wrap_own Short (pos n) h = grind (arith, ints, nat_tests, h.below)
wrap_own Short (negsuc n) h = grind (arith, ints, nat_tests, h.above)
wrap_own Int (pos n) h = grind (arith, ints, nat_tests, h.below)
wrap_own Int (negsuc n) h = grind (arith, ints, nat_tests, h.above)
