use Rattle.flowgraph.specs.Flowgraph.{net_of}
use Rattle.firing_rules.specs.State.{rows_of}
use Rattle.firing_rules.proofs.Running.{running_small}
use Rattle.firing_rules.proofs.situation.Situation.of.Goals as goal

pub invariant_of-result : goal.invariant_of-result
invariant_of-result g c =
    (c.requires.block, running_small c.args.graph.now.names (net_of g.B.Block.meaning c.args.graph.now) (rows_of (λ row. row.items) c.args.capacities.now) (g.T.Tapes.tapes c.args.tapes.now) c.recall.ensures.runs c.recall.ensures.valid c.args.firings.now c.requires.running)
