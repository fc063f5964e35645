use Rattle.graph_laws.proofs.Runs.{valid_graphs_run}
use Rattle.flowgraph.proofs.Nets.{lawful_nodes}
use Rattle.flowgraph.proofs.valid.Valid.recall.Goals as goal

pub returns-clause-lawful : goal.returns-clause-lawful
returns-clause-lawful g c = lawful_nodes g.B.Block.meaning g.met.B.Block.lawful c.args.self.now.blocks

pub returns-clause-runs : goal.returns-clause-runs
returns-clause-runs g c =
    rw (← c.self.view_is) (valid_graphs_run _ _ c.self.invariant.0 (lawful_nodes g.B.Block.meaning g.met.B.Block.lawful c.self.inside.blocks.items)).0

pub returns-clause-counts : goal.returns-clause-counts
returns-clause-counts g c =
    rw (← c.self.view_is) (valid_graphs_run _ _ c.self.invariant.0 (lawful_nodes g.B.Block.meaning g.met.B.Block.lawful c.self.inside.blocks.items)).1
