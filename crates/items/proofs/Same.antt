-- What the test of equality says.
use Rattle.std.proofs.Common.{◌≡◌, Bool, true, ◌&&◌, ◌↔◌, ◌∙◌, sym, IsTrue}
use Rattle.std.specs.Ordering.{int_eq}
use Rattle.std.specs.Cmp.{first_so, second_so}
use Rattle.std.specs.Cmp.Lexicographic.{pointwise}
use Rattle.std.specs.Cmp.Rules.{signed_items}
use Rattle.stream_model.specs.Numbers.{types_agree}
use Rattle.stream_model.proofs.Types.{types_agree-same}
use Rattle.items.specs.declared.stream_items.Items.{Items}
use Rattle.items.specs.Items.{type_of, numbers_of}
use Rattle.items.specs.Equality.{items_eq}

both_so : (s t : Bool) → s ≡ true → t ≡ true → (s && t) ≡ true
both_so s t p q i = p i && q i

-- the test is true exactly where type and numbers are equal
pub items_eq_decides : (a b : Items) (r : Bool) → r ≡ items_eq a b → IsTrue r ↔ ((type_of a ≡ type_of b) × (numbers_of a ≡ numbers_of b))
items_eq_decides a b r e =
    let types : Bool = types_agree (type_of a) (type_of b) in
    let numbers : Bool = pointwise int_eq (numbers_of a) (numbers_of b) in (
      (λ t. let s = sym e ∙ t in ((types_agree-same (type_of a) (type_of b)).0 (first_so types numbers s), (signed_items (numbers_of a) (numbers_of b)).0 (second_so types numbers s))),
      (λ p. e ∙ both_so types numbers ((types_agree-same (type_of a) (type_of b)).1 p.0) ((signed_items (numbers_of a) (numbers_of b)).1 p.1)),
    )
