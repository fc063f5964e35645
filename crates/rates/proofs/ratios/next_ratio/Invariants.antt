use Rattle.rates.proofs.ratios.next_ratio.Given as goal

abbrev pub ghost-told : goal.ghost-told
ghost-told g a = g.net
