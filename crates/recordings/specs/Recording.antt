-- What a contract sees of a stream of which only the end may be in memory: all of it.
use Rattle.std.specs.Prelude.{ℕ, ℤ, List}
use Rattle.stream_model.specs.declared.vocabulary.ItemType.{ItemType}
use Rattle.stream_model.specs.Tags.{Tag}

-- the type of the items, all items, all tags in order, the first item that is kept, how many more of each fit before
-- memory is needed, and how many items fit into memory at all
pub record RecordingState : Type 0 where
  pub item : ItemType
  pub items : List ℤ
  pub tags : List Tag
  pub from : ℕ
  pub spare_items : ℕ
  pub spare_tags : ℕ
  pub capacity : ℕ
