use Rattle.std.proofs.Common.{◌≡◌}
use Rattle.flow_core.specs.Script.{Flows}
use Rattle.flow_core.proofs.script.answer_all.Given as goal

abbrev pub invariant-loop-pieces : goal.invariant-loop-pieces
invariant-loop-pieces g l =
    (g.I.ByteIn.failed l.input ≡ g.I.ByteIn.failed l.initial.input)
    × (g.O.ByteOut.failed l.output ≡ g.O.ByteOut.failed l.initial.output)
    × Flows g.A.Answerer.answers l.initial.session l.session (g.I.ByteIn.remaining l.initial.input) (g.I.ByteIn.remaining l.input) (g.O.ByteOut.contents l.initial.output) (g.O.ByteOut.contents l.output) l.lines l._pieces
