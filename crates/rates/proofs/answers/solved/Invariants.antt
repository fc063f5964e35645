use Rattle.rates.proofs.answers.solved.Given as goal

abbrev pub ghost-all_hold : goal.ghost-all_hold
ghost-all_hold g a = g.net

abbrev pub ghost-firings : goal.ghost-firings
ghost-firings g a = g.net

abbrev pub ghost-sized : goal.ghost-sized
ghost-sized g a = g.net
