-- What the blocks of arithmetic mean.
use Rattle.std.specs.Prelude.{◌≡◌, ◌≤◌, ℤ, pos, List, length, map, Bool, true, ◌&&◌, refl}
use Rattle.std.specs.Ordering.{int_eq}
use Rattle.std.specs.Cmp.{first_so, second_so, signed_Decides}
use denote.Enum.Bare.{sameb}
use Rattle.std.specs.Cmp.Lexicographic.{pointwise}
use Rattle.std.proofs.Common.{ap, ap₂, sym, nat_eq}
use Rattle.std.specs.Cmp.Lexicographic.{same_text}
use Rattle.stream_model.specs.contracts.vocabulary.ItemType.{the_type}
use Rattle.stream_model.specs.declared.vocabulary.ItemType.{ItemType}
use Rattle.stream_model.specs.declared.vocabulary.ItemType.TheVariants.{Byte}
use Rattle.stream_model.specs.Numbers.{AreItems}
use Rattle.stream_model.specs.Meaning.{Meaning, IsLawful}
use Rattle.kind_model.specs.Math.{scale, clip, binary_slicer, mute, convert, map_bb, table, moving_sum}
use Rattle.items.specs.Equality.{items_eq}
use Rattle.items.proofs.Same.{items_eq_decides}
use Rattle.items.specs.Items.{type_of, numbers_of}
use Rattle.block_trait.specs.SameItem.{same_item, same_number}
use Rattle.math_blocks.specs.declared.binary_slicer.AtLeast.{AtLeast}
use Rattle.math_blocks.specs.declared.constant.Constant.{Constant}
use Rattle.math_blocks.specs.declared.convert.Convert.{Convert}
use Rattle.kind_laws.specs.Math.{map_bb-lawful, table-lawful}
use Rattle.math_blocks.specs.declared.map_bb.MapBb.{MapBb}
use Rattle.math_blocks.specs.declared.moving_sum.MovingSum.{MovingSum}
use Rattle.math_blocks.specs.declared.clip.Nearest.{Nearest}
use Rattle.math_blocks.specs.declared.mute.Mute.{Mute}
use Rattle.math_blocks.specs.declared.scale.Scale.{Scale}
use Rattle.math_blocks.specs.declared.table.Table.{Table}

abbrev pub scale_of : Scale → Meaning
scale_of b = scale b.item b.factor b.shift

abbrev pub moving_sum_of : MovingSum → Meaning
moving_sum_of b = moving_sum b.item b.length

abbrev pub clip_of : Nearest → Meaning
clip_of m = clip m.item m.low m.high

abbrev pub binary_slicer_of : AtLeast → Meaning
binary_slicer_of m = binary_slicer m.item m.threshold

abbrev pub mute_of : Mute → Meaning
mute_of b = mute b.item b.on

abbrev pub convert_of : Convert → Meaning
convert_of b = convert b.item b.to

-- blocks that the derived test finds equal mean the same
same_numbers : (s t : ItemType) (y z : ℤ) (rest : Bool) → (sameb the_type s t && (int_eq y z && rest)) ≡ true → (s ≡ t)
    × (y ≡ z) × (rest ≡ true)
same_numbers s t y z rest e =
    let others = second_so (sameb the_type s t) (int_eq y z && rest) e in (
      same_item s t (first_so (sameb the_type s t) (int_eq y z && rest) e),
      (signed_Decides y z).0
          (first_so (int_eq y z) rest others),
      second_so (int_eq y z) rest others,
    )

pub constant-same :
    {A : Type 0} (equation : ItemType → ℤ → Meaning) (a b : Constant A)
    → (sameb the_type a.item b.item && (int_eq a.value b.value && true)) ≡ true →
    equation a.item a.value ≡ equation b.item b.value
constant-same equation a b e = let same = same_numbers a.item b.item a.value b.value true e in ap₂ equation same.0
    same.1

pub clip-same : (m n : Nearest) → (sameb the_type m.item n.item && (int_eq m.low n.low && int_eq m.high n.high)) ≡ true
    → clip_of m ≡ clip_of n
clip-same m n e =
    let same = same_numbers m.item n.item m.low n.low (int_eq m.high n.high) e in
    let item_same = same.0 in
    let low_same = same.1 in
    let high_same = (signed_Decides m.high n.high).0 same.2 in
    λ i. clip (item_same i) (low_same i) (high_same i)

pub binary_slicer-same : (m n : AtLeast) → (sameb the_type m.item n.item && int_eq m.threshold n.threshold) ≡ true
    → binary_slicer_of m ≡ binary_slicer_of n
binary_slicer-same m n e =
    ap₂ binary_slicer (same_item m.item n.item (first_so (sameb the_type m.item n.item) (int_eq m.threshold n.threshold)
    e))
    ((signed_Decides m.threshold n.threshold).0 (second_so (sameb the_type m.item n.item)
    (int_eq m.threshold n.threshold) e))

pub mute-same : (a b : Mute) → (sameb the_type a.item b.item && int_eq a.on b.on) ≡ true → mute_of a ≡ mute_of b
mute-same a b e =
    ap₂ mute (same_item a.item b.item (first_so (sameb the_type a.item b.item) (int_eq a.on b.on) e))
    ((signed_Decides a.on b.on).0 (second_so (sameb the_type a.item b.item) (int_eq a.on b.on) e))

pub scale-same : (a b : Scale) → (sameb the_type a.item b.item && (int_eq a.factor b.factor && nat_eq a.shift b.shift))
    ≡ true → scale_of a ≡ scale_of b
scale-same a b e =
    let same = same_numbers a.item b.item a.factor b.factor (nat_eq a.shift b.shift) e in
    let item_same = same.0 in
    let factor_same = same.1 in
    λ i. scale (item_same i) (factor_same i) (same_number a.shift b.shift same.2 i)

pub convert-same : (a b : Convert) → (sameb the_type a.item b.item && sameb the_type a.to b.to) ≡ true → convert_of a
    ≡ convert_of b
convert-same a b e =
    let item_same = same_item a.item b.item (first_so (sameb the_type a.item b.item) (sameb the_type a.to b.to) e) in
    let to_same = same_item a.to b.to (second_so (sameb the_type a.item b.item) (sameb the_type a.to b.to) e) in
    λ i. convert (item_same i) (to_same i)

-- at most 256 numbers, each a byte
abbrev pub IsTable : List ℤ → Type 0
IsTable table = (length table ≤ 256) × AreItems Byte table

abbrev pub map_bb_of : MapBb → Meaning
map_bb_of b = map_bb (map pos b.table.items)

pub map_bb_of-lawful : (b : MapBb) → IsLawful (map_bb_of b)
map_bb_of-lawful b = map_bb-lawful (map pos b.table.items) b.bytes

pub map_bb-same : (a b : MapBb) → pointwise nat_eq a.table.items b.table.items ≡ true → map_bb_of a ≡ map_bb_of b
map_bb-same a b e = ap (λ t. map_bb (map pos t)) (same_text a.table.items b.table.items (sym e))

-- 1 to 256 numbers of the type
abbrev pub AreValues : ItemType → List ℤ → Type 0
AreValues to values = (1 ≤ length values) × (length values ≤ 256) × AreItems to values

abbrev pub table_of : Table → Meaning
table_of b = table (type_of b.values) (numbers_of b.values)

pub table_of-lawful : (b : Table) → IsLawful (table_of b)
table_of-lawful b = table-lawful (type_of b.values) (numbers_of b.values) b.in_range

pub table-same : (a b : Table) → items_eq a.values b.values ≡ true → table_of a ≡ table_of b
table-same a b e = let same = (items_eq_decides a.values b.values (items_eq a.values b.values) refl).0 e in ap₂ table
    same.0 same.1
