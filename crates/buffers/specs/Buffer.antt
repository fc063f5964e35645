-- What a contract sees of a buffer: its type, the ring of its items, and the tags that are still wanted.
use Rattle.std.specs.Prelude.{◌≡◌, ℕ, List, []}
use Rattle.std.specs.Option.{option_map_or}
use Rattle.stream_model.specs.declared.vocabulary.ItemType.{ItemType}
use Rattle.stream_model.specs.declared.vocabulary.ItemType.TheVariants as types
use Rattle.stream_model.specs.Tags.{Tag}
use Rattle.tags.specs.TagList.{tags_from}
use Rattle.ring_readers.specs.State.{RingState, slowest_of}
use Rattle.buffers.specs.declared.rings.Rings.{Rings}
use Rattle.buffers.specs.declared.rings.Rings.TheVariants.{Byte, Short, Int}

-- the type of a ring's items
abbrev pub type_of : Rings → ItemType
type_of (Byte r) = types.Byte
type_of (Short r) = types.Short
type_of (Int r) = types.Int

-- the ring, whatever its type
abbrev pub ring_of : Rings → RingState
ring_of (Byte r) = r
ring_of (Short r) = r
ring_of (Int r) = r

-- an output's buffer: the type of its items, the ring that holds them, the tags that it keeps, and how many more of
-- them fit before memory is needed
pub record BufferState : Type 0 where
  pub item : ItemType
  pub ring : RingState
  pub tags : List Tag
  pub spare : ℕ

-- the tags at or behind the place of the slowest live reader: none where no reader is left
abbrev pub wanted_tags : RingState → List Tag → List Tag
wanted_tags ring ts = option_map_or (λ place. tags_from place ts) (slowest_of ring.readers) []

-- of all tags of an output's stream, the buffer keeps those that are still wanted
abbrev pub KeepsTagsOf : BufferState → List Tag → Type 0
KeepsTagsOf b whole = b.tags ≡ wanted_tags b.ring whole
