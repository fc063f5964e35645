use Rattle.std.proofs.Common.{◌≡◌, drop, ◌++◌}
use Rattle.std.specs.List.{flat_map}
use Rattle.refusal_codes.specs.Texts.{part_text}
use Rattle.script_text.specs.Replies.{line_text}
use Rattle.flow_core.specs.Faults.{found_in}
use Rattle.flow_core.specs.Serve.{Stream, Tries, stream}
use Rattle.flow_core.proofs.refusal_line.write_parts.Given as goal

-- no write failed so far, and whoever writes the parts that are left, and the end of the line, has written the line
abbrev pub invariant-loop-part : goal.invariant-loop-part
invariant-loop-part g l =
    (g.E.ByteOut.failed l.errors ≡ g.E.ByteOut.failed l.initial.errors)
    × ((last : Stream) → Tries (stream (g.E.ByteOut.contents l.errors) (g.E.ByteOut.failed l.errors)) last (flat_map part_text (drop l.part-index l.parts) ++ line_text (found_in l.name)) →
    Tries (stream (g.E.ByteOut.contents l.initial.errors) (g.E.ByteOut.failed l.initial.errors)) last (flat_map part_text l.parts ++ line_text (found_in l.name)))
