use Rattle.std.proofs.Common.{rules, refl}
use Rattle.rates.specs.Answer.{IsNamed}
use Rattle.flowgraph.specs.Flowgraph.{net_of}
use Rattle.rates.proofs.Valid.{has_rates}
use Rattle.rates.proofs.answers.balance.Goals as goal

pub rates_of-requires : goal.rates_of-requires
rates_of-requires g c =
    let net = net_of g.B.Block.meaning c.args.graph.now in
    let named : IsNamed net net = record { same = refl; rates = has_rates c.args.graph.now.names net c.recall.ensures.valid c.recall.ensures.runs c.recall.ensures.counts } in
    search rules
