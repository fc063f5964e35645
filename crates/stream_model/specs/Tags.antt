-- Stream tags: values that travel with an item. A tag's offset is the absolute number of its item, as in GNU Radio.
use Rattle.std.specs.Prelude.{ℕ, ◌+◌, ◌*◌, ◌/◌, ◌≡◌, ℤ, List, [], ◌∷◌, AllPairs, filter, ◌&&◌, false, nat_le, nat_lt, if◌then◌else◌}
use Rattle.std.specs.declared.cmp.Ordering.{Ordering}
use Rattle.std.specs.Ordering.{nat_cmp, int_cmp, ordering_then, is_gt}
use Rattle.std.specs.Cmp.Lexicographic.{slice_cmp}

-- a tag: the number of its item, a key, a value, and the number of the source block that it came from
pub record Tag : Type 0 where
  pub offset : ℕ
  pub key : List ℕ
  pub value : ℤ
  pub source : ℕ

-- a mark, which becomes a tag of the source that it is fed to
pub record Mark : Type 0 where
  pub offset : ℕ
  pub key : List ℕ
  pub value : ℤ

-- the order of tags: by offset, key, value and source; keys by their bytes, a beginning first
abbrev pub tag_cmp : Tag → Tag → Ordering
tag_cmp a b =
    ordering_then (nat_cmp a.offset b.offset)
    (ordering_then (slice_cmp nat_cmp a.key b.key) (ordering_then (int_cmp a.value b.value)
    (nat_cmp a.source b.source)))

-- a sorted list of tags with one more, duplicates kept
abbrev pub insert_tag : Tag → List Tag → List Tag
insert_tag t [] = t ∷ []
insert_tag t (u ∷ us) = if is_gt (tag_cmp t u) then u ∷ insert_tag t us else t ∷ u ∷ us

-- tags in order, duplicates kept
abbrev pub sorted_tags : List Tag → List Tag
sorted_tags [] = []
sorted_tags (t ∷ ts) = insert_tag t (sorted_tags ts)

-- no tag comes after a later one in the order of tags
abbrev pub IsOrdered : List Tag → Type 0
IsOrdered ts = AllPairs (λ t u. is_gt (tag_cmp t u) ≡ false) ts

-- the tags on items from on to below to
abbrev pub tags_within : ℕ → ℕ → List Tag → List Tag
tags_within from to ts = filter (λ t. nat_le from t.offset && nat_lt t.offset to) ts

-- where a tag on input item s goes, at a rate of i items for d: s * i / d to the nearest; ties round up
abbrev pub place_at_rate : ℕ → ℕ → ℕ → ℕ
place_at_rate d i s = (2 * s * i + d) / (2 * d)
