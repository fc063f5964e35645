use Rattle.rates.proofs.ratios.ratios.Given as goal

abbrev pub ghost-ratios_in : goal.ghost-ratios_in
ghost-ratios_in g a = g.net
