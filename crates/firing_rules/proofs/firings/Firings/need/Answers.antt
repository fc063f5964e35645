use Rattle.std.proofs.Common.{◌≡◌, ◌∙◌, subst}
use Rattle.machine_laws.specs.Waits.{wait_of}
use Rattle.flowgraph.specs.Flowgraph.{net_of}
use Rattle.firing_rules.specs.Situation.{Seen, net_seen, state_seen}
use Rattle.firing_rules.specs.State.{rows_of}
use Rattle.firing_rules.specs.Waits.{wait_seen}
use Rattle.firing_rules.proofs.Awaiting.{same_wait}
use Rattle.firing_rules.proofs.firings.Firings.need.Goals as goal

pub returns : goal.returns
returns g c =
    let here = subst (λ (s : Seen _). wait_seen c.need.result ≡ wait_of (net_seen g.B.Block.meaning s) s.capacities (state_seen s) s.block) c.of.ensures c.need.ensures in
    λ hs have. here ∙ same_wait (net_of g.B.Block.meaning c.args.graph.now) (rows_of (λ row. row.items) c.args.capacities.now) (g.T.Tapes.tapes c.args.tapes.now) c.args.self.now hs c.args.block.0 have
