use Rattle.std.proofs.Common.{length}
use Rattle.std.specs.Prelude.{◌↔◌, IsSome}
use Rattle.script_text.specs.Fields.{fields_of}
use Rattle.script_text.specs.Grammar.{integers_of}
use Rattle.script_text.proofs.parse.are_integers.Given as goal

-- all of the fields are such where those that are left are
abbrev pub invariant-loop-field : goal.invariant-loop-field
invariant-loop-field l = IsSome (integers_of (fields_of l.rest)) ↔ IsSome (integers_of (fields_of l.fields))

abbrev pub decreases-loop-field : goal.decreases-loop-field
decreases-loop-field l = length l.rest
