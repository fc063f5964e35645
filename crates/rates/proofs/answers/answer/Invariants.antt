use Rattle.rates.proofs.answers.answer.Given as goal

abbrev pub ghost-ratios : goal.ghost-ratios
ghost-ratios g a = g.net

abbrev pub ghost-solved : goal.ghost-solved
ghost-solved g a = g.net
