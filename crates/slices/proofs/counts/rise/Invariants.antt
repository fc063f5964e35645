use Rattle.std.proofs.Common.{◌-◌, ◌*◌, length, sum}
use Rattle.flowgraph.specs.Flowgraph.{net_of}
use Rattle.slices.specs.Counts.{AreBelow}
use Rattle.slices.proofs.counts.rise.Given as goal

abbrev pub invariant-turns : goal.invariant-turns
invariant-turns g l = AreBelow (net_of g.B.Block.meaning l.graph) l.firings l.iterations l.counts

abbrev pub decreases-turns : goal.decreases-turns
decreases-turns g l = length l.counts * 8589934592 - sum l.counts
