use Rattle.flow_core.proofs.run.run_alone.Goals as goal

pub returns-in-Ok-clause-does : goal.returns-in-Ok-clause-does
returns-in-Ok-clause-does g c = (c.in-Ok.ensures.does.0, c.in-Ok.ensures.does.1.0, c.in-Ok.ensures.does.2)
