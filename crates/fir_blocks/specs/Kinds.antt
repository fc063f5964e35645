-- What the filters mean.
use Rattle.std.specs.Prelude.{◌≡◌, ℕ, ℤ, List, true, ◌&&◌, nat_eq}
use Rattle.std.specs.Ordering.{int_eq}
use Rattle.std.specs.Cmp.{first_so, second_so}
use Rattle.std.specs.Cmp.Rules.{signed_items}
use Rattle.std.specs.Cmp.Lexicographic.{pointwise}
use denote.Enum.Bare.{sameb}
use Rattle.stream_model.specs.contracts.vocabulary.ItemType.{the_type}
use Rattle.stream_model.specs.declared.vocabulary.ItemType.{ItemType}
use Rattle.stream_model.specs.Meaning.{Meaning}
use Rattle.block_trait.specs.SameItem.{same_item, same_number}
use Rattle.fir_blocks.specs.declared.filter.Filter.{Filter}

-- a filter of which this is the equation
abbrev pub filter_of : {R : _} → (ItemType → List ℤ → ℕ → ℕ → Meaning) → Filter R → Meaning
filter_of meant b = meant b.item b.taps.items b.rate b.shift

-- filters that the derived test finds equal mean the same
pub filter-same :
    {R : _} (meant : ItemType → List ℤ → ℕ → ℕ → Meaning) (a b : Filter R) →
    (sameb the_type a.item b.item && (pointwise int_eq a.taps.items b.taps.items &&
    (nat_eq a.rate b.rate && nat_eq a.shift b.shift))) ≡ true →
    filter_of meant a ≡ filter_of meant b
filter-same meant a b e =
    let rest = second_so (sameb the_type a.item b.item) (pointwise int_eq a.taps.items b.taps.items &&
    (nat_eq a.rate b.rate && nat_eq a.shift b.shift)) e in
    let numbers = second_so (pointwise int_eq a.taps.items b.taps.items)
    (nat_eq a.rate b.rate && nat_eq a.shift b.shift) rest in
    let item_same = same_item a.item b.item (first_so (sameb the_type a.item b.item)
    (pointwise int_eq a.taps.items b.taps.items && (nat_eq a.rate b.rate && nat_eq a.shift b.shift)) e) in
    let taps_same = (signed_items a.taps.items b.taps.items).0 (first_so (pointwise int_eq a.taps.items b.taps.items)
    (nat_eq a.rate b.rate && nat_eq a.shift b.shift) rest) in
    let rate_same = same_number a.rate b.rate (first_so (nat_eq a.rate b.rate) (nat_eq a.shift b.shift) numbers) in
    let shift_same = same_number a.shift b.shift (second_so (nat_eq a.rate b.rate) (nat_eq a.shift b.shift) numbers) in
    λ i. meant (item_same i) (taps_same i) (rate_same i) (shift_same i)
