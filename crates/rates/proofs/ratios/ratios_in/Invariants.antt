use Rattle.rates.proofs.ratios.ratios_in.Given as goal

abbrev pub ghost-find_ratios : goal.ghost-find_ratios
ghost-find_ratios g a = g.net
