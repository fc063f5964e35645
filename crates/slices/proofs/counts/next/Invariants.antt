use Rattle.flowgraph.specs.Flowgraph.{net_of}
use Rattle.slices.proofs.Fewest.{IsFewest}
use Rattle.slices.proofs.counts.next.Given as goal

abbrev pub invariant-loop-input : goal.invariant-loop-input
invariant-loop-input g l = IsFewest (net_of g.B.Block.meaning l.graph) l.counts l.fn.block.0 l.fewest l.input-index
