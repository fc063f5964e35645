use Rattle.flowgraph.specs.Flowgraph.{net_of}
use Rattle.rates.proofs.answers.balance.Given as goal

abbrev pub ghost-rates_of : goal.ghost-rates_of
ghost-rates_of g a = net_of g.B.Block.meaning a.graph.now
