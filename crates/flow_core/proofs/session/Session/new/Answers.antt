use Rattle.std.proofs.Common.{◌≡◌, ◌∙◌, length, ap}
use Rattle.flowgraph.specs.Flowgraph.{Flowgraph}
use Rattle.flow_core.proofs.Claiming.{none_at_first}
use Rattle.flow_core.proofs.session.Session.new.Goals as goal

pub returns : goal.returns
returns g c =
    let count : c.len-count.result ≡ length c.args.plant.graph.blocks = c.len-count.ensures.blocks ∙ ap (λ (x : Flowgraph _). length x.blocks) c.graph.ensures in
    none_at_first c.args.plant c.in_ok-jobs.jobs.items c.len-count.result c.in_ok-jobs.ensures count
