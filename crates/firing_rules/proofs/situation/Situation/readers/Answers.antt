use Rattle.flowgraph.specs.Flowgraph.{net_of}
use Rattle.firing_rules.proofs.Looks.{readers_known}
use Rattle.firing_rules.proofs.situation.Situation.readers.Goals as goal

pub returns-clause-known : goal.returns-clause-known
returns-clause-known g c =
    rw (← c.self.view_is) (readers_known (net_of g.B.Block.meaning c.self.inside.graph.now) c.self.invariant.1.runs c.self.inside.block.0 c.args.port c.readers.result.now c.readers.ensures)
