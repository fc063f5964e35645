use Rattle.std.proofs.Common.{ℕ}
use Rattle.streaming.specs.Working.{IsLedOn}
use Rattle.streaming.proofs.helped.take_all_back.Given as goal

abbrev pub invariant-loop-works : goal.invariant-loop-works
invariant-loop-works g l = (most : ℕ) → IsLedOn g.B.Block.meaning most l.initial.parts l.parts
