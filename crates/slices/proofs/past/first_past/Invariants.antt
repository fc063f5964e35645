use Rattle.std.proofs.Common.{◌-◌}
use Rattle.flowgraph.specs.Flowgraph.{net_of}
use Rattle.slices.proofs.Passed.{IsBetween}
use Rattle.slices.proofs.past.first_past.Given as goal

abbrev pub invariant-halves : goal.invariant-halves
invariant-halves g l = IsBetween (net_of g.B.Block.meaning l.graph) l.firings l.low l.high

abbrev pub decreases-halves : goal.decreases-halves
decreases-halves g l = l.high - l.low
