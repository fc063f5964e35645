-- What the lines of marks say: a mark each, or that no mark below an item comes.
use Rattle.std.specs.Prelude.{ℕ, List, [], ◌∷◌, map, take, drop, length, nat_lt, codes, if◌then◌else◌, Option, Some, None}
use Rattle.std.specs.Option.{option_map}
use Rattle.std.specs.Str.{bytes_eq}
use Rattle.stream_model.specs.Tags.{Mark}
use Rattle.script_text.specs.Commands.{mark_seen}
use Rattle.script_text.specs.Lines.{lines_of, longest_line}
use Rattle.script_text.specs.MarkLines.{line_mark}
use Rattle.script_text.specs.Numbers.{offset_of}
use Rattle.pipeline.specs.declared.mark_line.MarkLine.{MarkLine}
use Rattle.pipeline.specs.declared.mark_line.MarkLine.TheVariants as line

-- a mark, or that no mark on an item below this one comes
pub data Saying : Type 0 where
  AMark : Mark → Saying
  Until : ℕ → Saying

-- the item that it speaks of
abbrev pub item_of : Saying → ℕ
item_of (AMark mark) = mark.offset
item_of (Until n) = n

-- the item of `until N`: behind the word and a space a number of 64 bits stands, and nothing else
abbrev pub until_of : List ℕ → Option ℕ
until_of line =
    if nat_lt longest_line (length line) then None
    else (if bytes_eq (take 6 line) (codes "until ") then offset_of (drop 6 line) else None)

-- what a line is that is no `until`
abbrev pub said_by : Option ℕ → Option Mark → Option Saying
said_by (Some n) mark = Some (Until n)
said_by None mark = option_map AMark mark

-- what a line says, which may not be too long
abbrev pub saying_of : List ℕ → Option Saying
saying_of line = said_by (until_of line) (line_mark line)

-- what the lines of bytes say, each something or nothing that it may say
abbrev pub sayings_of : List ℕ → List (Option Saying)
sayings_of bytes = map saying_of (lines_of bytes)

-- the marks among them
abbrev pub marks_among : List Saying → List Mark
marks_among [] = []
marks_among (AMark mark ∷ more) = mark ∷ marks_among more
marks_among (Until n ∷ more) = marks_among more

-- a line in memory, as what it says
abbrev pub saying_seen : MarkLine → Saying
saying_seen (line.Mark mark) = AMark (mark_seen mark)
saying_seen (line.Until n) = Until n

-- the mark of a saying, where it is one
abbrev pub mark_held : Option Saying → Option Mark
mark_held None = None
mark_held (Some (AMark mark)) = Some mark
mark_held (Some (Until n)) = None

-- what the line of a mark says, where there is one
abbrev pub saying_held : Option Mark → List Saying
saying_held None = []
saying_held (Some mark) = AMark mark ∷ []
