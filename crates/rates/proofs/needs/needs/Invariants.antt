use Rattle.rates.proofs.needs.needs.Given as goal

abbrev pub ghost-order : goal.ghost-order
ghost-order g a = g.net

abbrev pub ghost-run : goal.ghost-run
ghost-run g a = g.net
