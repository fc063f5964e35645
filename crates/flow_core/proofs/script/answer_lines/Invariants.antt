use Rattle.std.proofs.Common.{◌≡◌, [], length}
use Rattle.script_text.specs.Scripts.{said_of}
use Rattle.flow_core.specs.Script.{Went}
use Rattle.flow_core.proofs.script.answer_lines.Given as goal

abbrev pub invariant-loop-fault : goal.invariant-loop-fault
invariant-loop-fault g l =
    (g.O.ByteOut.failed l.output ≡ g.O.ByteOut.failed l.initial.output)
    × Went g.A.Answerer.answers l.initial.session l.session (g.O.ByteOut.contents l.initial.output) (g.O.ByteOut.contents l.output) l.initial.lines l.lines

abbrev pub decreases-loop-fault : goal.decreases-loop-fault
decreases-loop-fault g l = length (said_of l.lines [])
