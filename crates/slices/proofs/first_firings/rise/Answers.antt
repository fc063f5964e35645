use Rattle.flowgraph.specs.Flowgraph.{net_of}
use Rattle.slices.proofs.Beginning.{still_begun, nearer, are_risen}
use Rattle.slices.proofs.first_firings.rise.Goals as goal

pub turns-smaller : goal.turns-smaller
turns-smaller g c =
    nearer (net_of g.B.Block.meaning c.args.graph.now) c.args.reaches.now c.turns.first c.turn.new.first c.turn.result c.turns.invariant c.turn.ensures c.turns-test.true

pub turns-preserved : goal.turns-preserved
turns-preserved g c =
    still_begun (net_of g.B.Block.meaning c.args.graph.now) c.args.reaches.now c.turns.first c.turn.new.first c.turn.result c.turns.invariant c.turn.ensures

pub returns : goal.returns
returns g c =
    are_risen (net_of g.B.Block.meaning c.args.graph.now) c.args.reaches.now c.turns.first c.turn.new.first c.turn.result c.turns.invariant c.turn.ensures c.turns-test.false
