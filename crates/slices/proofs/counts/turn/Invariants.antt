use Rattle.flowgraph.specs.Flowgraph.{net_of}
use Rattle.slices.proofs.Counting.{IsCounting}
use Rattle.slices.proofs.counts.turn.Given as goal

abbrev pub invariant-loop-block : goal.invariant-loop-block
invariant-loop-block g l = IsCounting (net_of g.B.Block.meaning l.graph) l.firings l.iterations l.fn.counts l.counts l.risen l.block
