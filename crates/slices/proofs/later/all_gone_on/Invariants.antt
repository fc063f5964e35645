use Rattle.std.proofs.Common.{◌≡◌, []}
use Rattle.flowgraph.specs.Flowgraph.{net_of}
use Rattle.slices.specs.Firings.{looks_of}
use Rattle.slices.specs.Plans.{AreLater}
use Rattle.slices.proofs.later.all_gone_on.Given as goal

abbrev pub invariant-loop-block : goal.invariant-loop-block
invariant-loop-block g l =
    (l.made.connections ≡ []) × AreLater (net_of g.B.Block.meaning l.graph) l.firings (looks_of g.B.Forgets.looks_back l.graph) l.iterations l.block (net_of g.B.Block.meaning l.made).nodes
