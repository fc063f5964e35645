-- A list of tags in order, with spare room for more.
use Rattle.std.specs.Prelude.{◌≡◌, ℕ, ◌-◌, ◌*◌, ◌≤◌, List, [], ◌∷◌, length, map, drop, filter, nat_le}
use Rattle.stream_model.specs.Tags as model
use Rattle.stream_model.specs.Tags.{IsOrdered}
use Rattle.items.specs.declared.marks.Tag.{Tag}
use Rattle.items.specs.Tags.{tag_of}

-- tags, and how many more fit before memory is needed
pub record TagList : Type 0 where
  pub tags : List model.Tag
  pub spare : ℕ

-- the tags on items from `before` on
abbrev pub tags_from : ℕ → List model.Tag → List model.Tag
tags_from before ts = filter (λ t. nat_le before t.offset) ts

-- the tags of a row of which the first are gone
abbrev pub kept_of : List Tag → ℕ → List model.Tag
kept_of row gone = map tag_of (drop gone row)

-- a row with its capacity, of which the first tags are gone: they are no more than those that are kept, and these fill
-- at most half the capacity
pub record IsRow (row : List Tag) (len capacity gone : ℕ) : Type 0 where
  pub ordered : IsOrdered (kept_of row gone)
  pub whole : len ≡ length row
  pub few : gone ≤ len - gone
  pub fits : 2 * (len - gone) ≤ capacity

-- a list of tags in order with more of them, duplicates kept
abbrev pub insert_tags : List model.Tag → List model.Tag → List model.Tag
insert_tags [] ts = ts
insert_tags (t ∷ more) ts = insert_tags more (model.insert_tag t ts)
