use Rattle.pipeline.proofs.pipeline.Pipeline.write_to.Goals as goal

pub returns-clause-joins : goal.returns-clause-joins
returns-clause-joins g c = rw (← c.whole.ensures) c.write_part.ensures.joins
