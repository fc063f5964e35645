use Rattle.streaming.specs.Working.{IsLedOn}
use Rattle.streaming.proofs.helped.look_again.Given as goal

abbrev pub invariant-loop-looks : goal.invariant-loop-looks
invariant-loop-looks g l = IsLedOn g.B.Block.meaning l.fn.max l.initial.parts l.parts
