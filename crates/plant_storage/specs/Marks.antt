-- Marks, and the tags that they become.
use Rattle.std.specs.Prelude.{ℕ}
use Rattle.stream_model.specs.Tags as model
use Rattle.items.specs.declared.marks.Mark.{Mark}
use Rattle.items.specs.declared.marks.Tag.{Tag}

-- a mark as the model has it, and the tag that it becomes when a source is fed with it
abbrev pub mark_of : Mark → model.Mark
mark_of m = record { offset = m.offset; key = m.key; value = m.value }

abbrev pub stamped : ℕ → Mark → Tag
stamped source m = record { offset = m.offset; key = m.key; value = m.value; source = source }
