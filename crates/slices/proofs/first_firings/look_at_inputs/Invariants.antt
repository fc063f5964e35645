use Rattle.flowgraph.specs.Flowgraph.{net_of}
use Rattle.slices.specs.Firings.{AreBegun}
use Rattle.slices.proofs.first_firings.look_at_inputs.Given as goal

abbrev pub invariant-loop-input : goal.invariant-loop-input
invariant-loop-input g l = AreBegun (net_of g.B.Block.meaning l.graph) l.reaches l.first
