use Rattle.flowgraph.specs.Flowgraph.{net_of}
use Rattle.slices.specs.Firings.{AreBegun}
use Rattle.slices.proofs.first_firings.pass.Given as goal

abbrev pub invariant-loop-block : goal.invariant-loop-block
invariant-loop-block g l = AreBegun (net_of g.B.Block.meaning l.graph) l.reaches l.first
