-- When two lists of items are equal.
use Rattle.std.specs.Prelude.{Bool, ◌&&◌}
use Rattle.std.specs.Ordering.{int_eq}
use Rattle.std.specs.Cmp.{IsEquivalence, on_equiv, and_equiv, nat_eq_equiv, int_eq_equiv}
use Rattle.std.specs.Cmp.Lexicographic.{pointwise, lists_equiv}
use Rattle.stream_model.specs.Numbers.{bits_of, types_agree}
use Rattle.items.specs.declared.stream_items.Items.{Items}
use Rattle.items.specs.Items.{type_of, numbers_of}

-- the types and the numbers are the same
abbrev pub items_eq : Items → Items → Bool
items_eq a b = types_agree (type_of a) (type_of b) && pointwise int_eq (numbers_of a) (numbers_of b)

-- the law of `Eq`
pub items_eq_equiv : IsEquivalence items_eq
items_eq_equiv = and_equiv (on_equiv (λ a. bits_of (type_of a)) nat_eq_equiv)
    (on_equiv numbers_of (lists_equiv int_eq_equiv))
