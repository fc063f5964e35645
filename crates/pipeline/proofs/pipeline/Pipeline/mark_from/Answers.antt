use Rattle.pipeline.proofs.pipeline.Pipeline.mark_from.Goals as goal

pub returns-clause-joins : goal.returns-clause-joins
returns-clause-joins g c = rw (← c.whole.ensures) c.mark_part.ensures.joins
