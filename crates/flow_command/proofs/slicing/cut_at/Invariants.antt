use Rattle.flow_command.proofs.slicing.cut_at.Given as goal

abbrev pub ghost-slice : goal.ghost-slice
ghost-slice g a = g.of
