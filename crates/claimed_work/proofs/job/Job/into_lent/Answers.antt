use Rattle.std.proofs.Common.{◌*◌, subst}
use Rattle.std.specs.List.{All}
use Rattle.stream_model.specs.Network.{node_at}
use Rattle.block_trait.specs.Work.{IsReady}
use Rattle.flowgraph.specs.Flowgraph.{net_of}
use Rattle.claimed_work.specs.Jobs.{AreTaken}
use Rattle.claimed_work.proofs.job.Job.into_lent.Goals as goal

pub returns-clause-taken : goal.returns-clause-taken
returns-clause-taken g c =
    subst (λ job. AreTaken (net_of g.B.Block.meaning job.graph) job.job.block c.self.inside.claimed.lent.windows.items) c.self.view_is c.self.invariant.2.types

pub returns-clause-ready : goal.returns-clause-ready
returns-clause-ready g c =
    subst
    (λ job. let n = node_at (net_of g.B.Block.meaning job.graph) job.job.block in All (IsReady n.meaning (n.multiple * job.job.first) (n.multiple * job.job.count)) c.self.inside.claimed.lent.outputs.items)
    c.self.view_is c.self.invariant.2.ready
