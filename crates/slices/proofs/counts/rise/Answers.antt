use Rattle.flowgraph.specs.Flowgraph.{net_of}
use Rattle.slices.proofs.Counting.{nearer, are_counted}
use Rattle.slices.proofs.counts.rise.Goals as goal

pub turns-smaller : goal.turns-smaller
turns-smaller g c =
    nearer (net_of g.B.Block.meaning c.args.graph.now) c.args.firings.now c.args.iterations c.turns.counts c.turn.new.counts c.turn.result c.turn.ensures c.turns.invariant c.turns-test.true

pub returns : goal.returns
returns g c = are_counted (net_of g.B.Block.meaning c.args.graph.now) c.args.firings.now c.args.iterations c.turns.counts c.turn.new.counts c.turn.result c.turn.ensures c.turns-test.false
