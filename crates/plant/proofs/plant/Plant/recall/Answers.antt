use Rattle.std.proofs.Common.{◌≡◌, ◌∙◌, ap, subst}
use Rattle.std.specs.Arc.{arc_value}
use Rattle.graph_model.specs.Rates.{balance_of, capacities_of}
use Rattle.flowgraph.specs.Flowgraph.{net_of}
use Rattle.plant.proofs.Runs.{calls_compose}
use Rattle.plant.proofs.plant.Plant.recall.Goals as goal

pub returns-clause-composes : goal.returns-clause-composes
returns-clause-composes g c = λ made new leads. calls_compose (net_of g.B.Block.meaning c.args.self.now.graph) made c.args.self.now new leads

pub returns-clause-capacities : goal.returns-clause-capacities
returns-clause-capacities g c =
    let parts = c.self.inside.parts in
    let net = net_of g.B.Block.meaning (arc_value parts.graph) in
    subst (λ x. x.capacities ≡ capacities_of (net_of g.B.Block.meaning x.graph) (balance_of (net_of g.B.Block.meaning x.graph))) c.self.view_is
    (c.self.invariant.right.built.capacities ∙ ap (capacities_of net) c.self.invariant.right.built.rates.answer)
