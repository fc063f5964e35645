use Rattle.flowgraph.specs.Flowgraph.{net_of}
use Rattle.rates.specs.Answer.{answer_of}
use Rattle.rates.proofs.Asked.{AreMost}
use Rattle.rates.proofs.sizes.asked.Given as goal

abbrev pub invariant-loop-number : goal.invariant-loop-number
invariant-loop-number g l = AreMost (net_of g.B.Block.meaning l.graph) (answer_of l.rates) l.number l.asked.items
