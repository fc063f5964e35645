-- What a contract sees of a source's tape.
use Rattle.std.specs.Prelude.{◌++◌, ◌+◌, ◌==◌, ℕ, ℤ, List, [], length, map, max, nat_le, if◌then◌else◌}
use Rattle.stream_model.specs.declared.vocabulary.ItemType.{ItemType}
use Rattle.stream_model.specs.Tags.{Tag, Mark}
use Rattle.stream_model.specs.Machine.{tag_of}
use Rattle.tags.specs.TagList.{insert_tags}

-- the type of its items, the items, the tags on them in order, the same tags in the order of feeding, the first item in
-- memory, and how many of the tags in the order of feeding are in memory, and fit there
pub record TapeState : Type 0 where
  pub item : ItemType
  pub items : List ℤ
  pub tags : List Tag
  pub marks : List Tag
  pub from : ℕ
  pub marks_held : ℕ
  pub marks_room : ℕ

-- no items yet
abbrev pub blank_tape : ItemType → TapeState
blank_tape t = record { item = t; items = []; tags = []; marks = []; from = 0; marks_held = 0; marks_room = 0 }

-- the room for n more beside those that are there: as it is, where they fit; else it grows by as many as there are, or
-- by n if that is more
abbrev pub room_for : ℕ → ℕ → ℕ → ℕ
room_for held room n = if nat_le (held + n) room then room else held + max n held

-- with items more at its end, and marks on them, which become tags of source b
abbrev pub longer_tape : TapeState → ℕ → List ℤ → List Mark → TapeState
longer_tape t b xs ms =
    let more = map (tag_of b) ms in
    record t {
      items = t.items ++ xs;
      tags = insert_tags more t.tags;
      marks = t.marks ++ more;
      marks_held = t.marks_held + length ms;
      marks_room = room_for t.marks_held t.marks_room (length ms);
    }

-- without its first items in memory, and without its tags in the order of feeding, unless it is kept whole
abbrev pub shorter_tape : TapeState → ℕ → TapeState
shorter_tape t to = record t { from = to; marks_held = if to == 0 then t.marks_held else 0 }
