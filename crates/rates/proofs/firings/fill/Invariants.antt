use Rattle.rates.proofs.firings.fill.Given as goal

abbrev pub ghost-find_wholes : goal.ghost-find_wholes
ghost-find_wholes g a = g.net

abbrev pub ghost-find_firings : goal.ghost-find_firings
ghost-find_firings g a = g.net
