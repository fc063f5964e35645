use Rattle.streaming.specs.Working.{IsLedOn}
use Rattle.streaming.proofs.helped.look.Given as goal

abbrev pub invariant-loop-block : goal.invariant-loop-block
invariant-loop-block g l = IsLedOn g.B.Block.meaning l.fn.max l.initial.parts l.parts
