use Rattle.rates.proofs.order.order.Given as goal

abbrev pub ghost-rounds : goal.ghost-rounds
ghost-rounds g a = g.net
