use Rattle.std.proofs.Common.{subst}
use Rattle.flowgraph.specs.Flowgraph.{net_of}
use Rattle.claimed_work.specs.Jobs.{AreTaken, AreGiven}
use Rattle.claimed_work.proofs.worked.Worked.into_lent.Goals as goal

pub returns-clause-taken : goal.returns-clause-taken
returns-clause-taken g c =
    subst (λ w. AreTaken (net_of g.B.Block.meaning w.graph) w.job.block c.self.inside.claimed.lent.windows.items) c.self.view_is c.self.invariant.2.taken

pub returns-clause-given : goal.returns-clause-given
returns-clause-given g c =
    subst (λ w. AreGiven (net_of g.B.Block.meaning w.graph) w.job.block c.self.inside.claimed.lent.outputs.items) c.self.view_is c.self.invariant.2.given
