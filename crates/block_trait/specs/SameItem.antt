-- Types of items that a derived test finds equal are one.
use Rattle.std.specs.Prelude.{◌≡◌, ℕ, true, ◌&&◌, refl, nat_eq}
use Rattle.std.proofs.Common.{ap₂}
use Rattle.std.proofs.lemmas.Bool.{eqb-true}
use Rattle.std.specs.Cmp.{first_so, second_so}
use Rattle.stream_model.specs.Meaning.{Meaning}
use denote.Enum.Bare.{sameb}
use Rattle.stream_model.specs.contracts.vocabulary.ItemType.{the_type}
use Rattle.stream_model.specs.declared.vocabulary.ItemType.{ItemType}
use Rattle.stream_model.specs.declared.vocabulary.ItemType.TheVariants.{Byte, Short, Int}

pub same_item : (s t : ItemType) → sameb the_type s t ≡ true → s ≡ t
same_item Byte Byte e = refl
same_item Byte Short e = cc
same_item Byte Int e = cc
same_item Short Byte e = cc
same_item Short Short e = refl
same_item Short Int e = cc
same_item Int Byte e = cc
same_item Int Short e = cc
same_item Int Int e = refl

-- and so are numbers
pub same_number : (m n : ℕ) → nat_eq m n ≡ true → m ≡ n
same_number m n e = eqb-true m n e

-- blocks of a type and a number, where both are equal
pub same_sized : (f : ItemType → ℕ → Meaning) (s t : ItemType) (m n : ℕ) → (sameb the_type s t && nat_eq m n) ≡ true
    → f s m ≡ f t n
same_sized f s t m n e =
    ap₂ f (same_item s t (first_so (sameb the_type s t) (nat_eq m n) e))
    (same_number m n (second_so (sameb the_type s t) (nat_eq m n) e))
