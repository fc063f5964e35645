use Rattle.std.proofs.Common.{take}
use Rattle.flowgraph.specs.Asked.{AreAsked}
use Rattle.flowgraph.proofs.asked.all_asked.Given as goal

abbrev pub invariant-loop-entry : goal.invariant-loop-entry
invariant-loop-entry g l = AreAsked g.B.Block.meaning (take l.entry-index l.blocks) l.all.items
