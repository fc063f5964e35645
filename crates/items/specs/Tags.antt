-- Tags as the model has them, and their order.
use Rattle.std.specs.Prelude.{◌≡◌, Bool, ◌&&◌, nat_eq, refl}
use Rattle.std.specs.declared.cmp.Ordering.{Ordering}
use Rattle.std.specs.Ordering.{int_eq, eq_by_cmp}
use Rattle.std.specs.Cmp.{IsTotalOrder, on_total, both_tied, unsigned_ties}
use Rattle.std.specs.Cmp.Lexicographic.{pointwise, texts_ties}
use Rattle.stream_model.specs.Tags as model
use Rattle.stream_model.proofs.TagOrder.{tag_total}
use Rattle.items.specs.declared.marks.Tag.{Tag}

-- a tag as the model has it
abbrev pub tag_of : Tag → model.Tag
tag_of t = record { offset = t.offset; key = t.key; value = t.value; source = t.source }

-- by offset, key, value and source
abbrev pub tag_order : Tag → Tag → Ordering
tag_order a b = model.tag_cmp (tag_of a) (tag_of b)

-- the law of `Ord`
pub tag_order-total : IsTotalOrder tag_order
tag_order-total = on_total tag_of tag_total

-- and that it does not distinguish what is equal
abbrev pub tag_eq : Tag → Tag → Bool
tag_eq a b = nat_eq a.offset b.offset && (pointwise nat_eq a.key b.key &&
    (int_eq a.value b.value && nat_eq a.source b.source))

pub tag_order-ties : (a b : Tag) → tag_eq a b ≡ eq_by_cmp tag_order a b
tag_order-ties a b =
    both_tied _ _ _ _ (unsigned_ties a.offset b.offset) (both_tied _ _ _ _ (texts_ties a.key b.key)
    (both_tied _ _ _ _ refl (unsigned_ties a.source b.source)))
