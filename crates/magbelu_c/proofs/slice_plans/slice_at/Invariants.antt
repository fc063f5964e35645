use Rattle.magbelu_c.proofs.slice_plans.slice_at.Given as goal

abbrev pub ghost-slice : goal.ghost-slice
ghost-slice g a = g.of
