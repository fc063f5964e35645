use Rattle.flowgraph.specs.Flowgraph.{net_of}
use Rattle.slices.proofs.Beginning.{are_first, are_late}
use Rattle.slices.proofs.first_firings.settle.Goals as goal

pub returns-clause-first : goal.returns-clause-first
returns-clause-first g c = λ e. are_first (net_of g.B.Block.meaning c.args.graph.now) c.args.reaches.now c.rise.new.first c.recall.ensures.runs c.rise.ensures (c.are_early.ensures.early e)

pub returns-clause-late : goal.returns-clause-late
returns-clause-late g c = λ e.
    let at = c.are_early.ensures.late e in
    are_late (net_of g.B.Block.meaning c.args.graph.now) c.args.reaches.now c.rise.new.first c.rise.ensures.begun at.0 at.1 at.2
