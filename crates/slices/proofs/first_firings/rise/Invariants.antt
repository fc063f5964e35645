use Rattle.std.proofs.Common.{◌-◌, ◌*◌, length, sum}
use Rattle.flowgraph.specs.Flowgraph.{net_of}
use Rattle.slices.specs.Firings.{AreBegun}
use Rattle.slices.proofs.first_firings.rise.Given as goal

abbrev pub invariant-turns : goal.invariant-turns
invariant-turns g l = AreBegun (net_of g.B.Block.meaning l.graph) l.reaches l.first

abbrev pub decreases-turns : goal.decreases-turns
decreases-turns g l = length l.first * 1099511627777 - sum l.first
