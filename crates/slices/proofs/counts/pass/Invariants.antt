use Rattle.flowgraph.specs.Flowgraph.{net_of}
use Rattle.slices.specs.Counts.{AreBelow}
use Rattle.slices.proofs.counts.pass.Given as goal

abbrev pub invariant-loop-block : goal.invariant-loop-block
invariant-loop-block g l = AreBelow (net_of g.B.Block.meaning l.graph) l.firings l.iterations l.counts
