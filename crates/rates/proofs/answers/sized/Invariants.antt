use Rattle.rates.proofs.answers.sized.Given as goal

abbrev pub ghost-needs : goal.ghost-needs
ghost-needs g a = g.net
