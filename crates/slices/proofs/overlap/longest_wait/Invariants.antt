use Rattle.flowgraph.specs.Flowgraph.{net_of}
use Rattle.slices.proofs.Waiting.{IsWaiting}
use Rattle.slices.proofs.overlap.longest_wait.Given as goal

abbrev pub invariant-loop-block : goal.invariant-loop-block
invariant-loop-block g l = IsWaiting (net_of g.B.Block.meaning l.graph) l.firings l.first l.tagged l.there l.longest l.block
