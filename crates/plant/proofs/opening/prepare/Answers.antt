use Rattle.std.proofs.Common.{sym, subst, ◌∙◌}
use Rattle.flowgraph.specs.Flowgraph.{net_of}
use Rattle.rates.specs.Answer.{answer_of}
use Rattle.plant_storage.specs.Opening.{HaveCapacities}
use Rattle.plant_storage.proofs.Capacities.{have_capacities}
use Rattle.plant.proofs.opening.prepare.Goals as goal

pub open-requires : goal.open-requires
open-requires g c =
    let net = net_of g.B.Block.meaning c.args.graph.now in
    subst (HaveCapacities net) (sym (c.rows.ensures ∙ c.in_ok-capacities.ensures)) (have_capacities net (answer_of c.in_ok-rates.rates) c.args.graph.now.names c.recall.ensures.valid)
