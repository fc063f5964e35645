use Rattle.rates.proofs.firings.firings.Given as goal

abbrev pub ghost-fill : goal.ghost-fill
ghost-fill g a = g.net
