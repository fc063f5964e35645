use Rattle.std.proofs.Common.{◌≡◌, ◌++◌, length}
use Rattle.std.specs.Prelude.{Some}
use Rattle.script_text.specs.Fields.{fields_of}
use Rattle.script_text.specs.Grammar.{integers_of, ◌>>=◌}
use Rattle.script_text.proofs.parse.parse_integers.Given as goal

-- what is left, behind the numbers so far, is what all of the fields are
abbrev pub invariant-loop-field : goal.invariant-loop-field
invariant-loop-field l = (integers_of (fields_of l.rest) >>= (λ xs. Some (l.numbers.items ++ xs))) ≡ integers_of (fields_of l.fields)

abbrev pub decreases-loop-field : goal.decreases-loop-field
decreases-loop-field l = length l.rest
