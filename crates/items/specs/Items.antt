-- What items are: a type and a list of numbers, with spare room for more.
use Rattle.std.specs.Prelude.{ℕ, ◌-◌, ℤ, pos, List, map}
use Rattle.std.specs.Vec.{vec_len, vec_capacity}
use Rattle.stream_model.specs.declared.vocabulary.ItemType.{ItemType}
use Rattle.stream_model.specs.declared.vocabulary.ItemType.TheVariants as types
use Rattle.items.specs.declared.stream_items.Items.{Items}
use Rattle.items.specs.declared.stream_items.Items.TheVariants.{Byte, Short, Int}

-- the type of the items
abbrev pub type_of : Items → ItemType
type_of (Byte v) = types.Byte
type_of (Short v) = types.Short
type_of (Int v) = types.Int

-- their numbers, in order
abbrev pub numbers_of : Items → List ℤ
numbers_of (Byte v) = map pos v.items
numbers_of (Short v) = v.items
numbers_of (Int v) = v.items

-- how many more items fit before memory is needed
abbrev pub spare_of : Items → ℕ
spare_of (Byte v) = vec_capacity v - vec_len v
spare_of (Short v) = vec_capacity v - vec_len v
spare_of (Int v) = vec_capacity v - vec_len v
