use Rattle.std.proofs.Common.{◌≡◌, ◌++◌, [], length}
use Rattle.std.specs.Prelude.{Some}
use Rattle.script_text.specs.Fields.{fields_of}
use Rattle.script_text.specs.Commands.{marks_seen}
use Rattle.script_text.specs.Grammar.{marks_of, ◌>>=◌}
use Rattle.script_text.proofs.parse.parse_marks.Given as goal

-- what is left, behind the marks so far, is what all of the fields are; where there are none, none is left
abbrev pub invariant-loop-field : goal.invariant-loop-field
invariant-loop-field l =
    ((marks_of (fields_of l.rest) >>= (λ ms. Some (marks_seen l.marks.items ++ ms))) ≡ marks_of (fields_of l.fields))
    × (fields_of l.fields ≡ [] → fields_of l.rest ≡ [])

abbrev pub decreases-loop-field : goal.decreases-loop-field
decreases-loop-field l = length l.rest
