-- What the lines of bytes say where each is a mark.
use Rattle.std.specs.Prelude.{ℕ, List, map, length, nat_lt, if◌then◌else◌, Option, Some, None}
use Rattle.stream_model.specs.Tags.{Mark}
use Rattle.script_text.specs.Fields.{cut_at}
use Rattle.script_text.specs.Grammar.{◌>>=◌, mark_of}
use Rattle.script_text.specs.Lines.{lines_of, longest_line}
use Rattle.script_text.specs.Numbers.{natural_of, within}
use Rattle.script_text.specs.Replies.{slash}

-- the number of a source: 32 bits
abbrev pub source_of : List ℕ → Option ℕ
source_of bytes = within 0 4294967295 (natural_of bytes)

-- the mark before a slash and the number of a source, or that of the whole line
abbrev pub mark_before : Option (List ℕ × List ℕ) → List ℕ → Option Mark
mark_before None line = mark_of line
mark_before (Some cut) line = source_of cut.1 >>= (λ source. mark_of cut.0)

-- the mark that a line says, which may not be too long: behind it the source of a tag may stand, as where tags are
-- written, which is passed over
abbrev pub line_mark : List ℕ → Option Mark
line_mark line = if nat_lt longest_line (length line) then None else mark_before (cut_at slash line) line

-- what the lines of bytes say, each a mark or nothing that it may say
abbrev pub marks_said : List ℕ → List (Option Mark)
marks_said bytes = map line_mark (lines_of bytes)
