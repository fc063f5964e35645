use Rattle.std.proofs.Common.{◌≡◌}
use Rattle.flowgraph.specs.Flowgraph.{net_of}
use Rattle.kinds.specs.Kind.{meaning_of}
use Rattle.closing.specs.Closing.{closed_below}
use Rattle.closing.proofs.close_all.Given as goal

abbrev pub invariant-loop-block : goal.invariant-loop-block
invariant-loop-block l = l.plant ≡ record l.initial.plant { state = closed_below (net_of meaning_of l.initial.plant.graph) l.initial.plant.state l.block }
