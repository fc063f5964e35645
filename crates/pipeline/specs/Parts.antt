-- Parts of streams: which of a whole is read, and which is written.
use Rattle.std.specs.Prelude.{ℕ, ℤ, ◌+◌, ◌-◌, max, List, map, filter, nat_le, false, slice_range}
use Rattle.std.specs.List.{flat_map}
use Rattle.stream_model.specs.Tags.{Mark, Tag}
use Rattle.tags.specs.TagList.{tags_from}
use Rattle.script_text.specs.Replies.{tag_line}
use Rattle.pipeline.specs.declared.part.StreamPart.{StreamPart}
use Rattle.pipeline.specs.declared.part.TapePart.{TapePart}

-- the whole of a tape, and of a stream
abbrev pub whole_tape : TapePart
whole_tape = record { origin = 0; goes_on = false }

abbrev pub whole_stream : StreamPart
whole_stream = record { origin = 0; drop = 0 }

-- a mark, by the number of its item from item n on
abbrev pub mark_behind : ℕ → Mark → Mark
mark_behind n mark = record mark { offset = mark.offset - n }

-- the marks on items from n on, by their numbers from there
abbrev pub marks_behind : ℕ → List Mark → List Mark
marks_behind n marks = map (mark_behind n) (filter (λ mark. nat_le n mark.offset) marks)

-- a tag n items further on
abbrev pub ahead_by : ℕ → Tag → Tag
ahead_by n t = record t { offset = n + t.offset }

-- the lines of a sink's tags: of those on items that are written, each by the number of its item in the whole stream
abbrev pub lines_of_part : StreamPart → List Tag → List ℕ
lines_of_part part ts = flat_map tag_line (map (ahead_by part.origin) (tags_from part.drop ts))

-- of a sink's items from `from` to below `to` those that are written
abbrev pub items_of_part : StreamPart → List ℤ → (from to : ℕ) → List ℤ
items_of_part part xs from to = slice_range xs (max from part.drop) to
