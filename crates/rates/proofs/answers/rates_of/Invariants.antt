use Rattle.rates.proofs.answers.rates_of.Given as goal

abbrev pub ghost-answer : goal.ghost-answer
ghost-answer g a = g.net
