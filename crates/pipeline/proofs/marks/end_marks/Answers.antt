use Rattle.pipeline.proofs.marks.end_marks.Goals as goal

pub returns-in-Some-clause-first : goal.returns-in-Some-clause-first
returns-in-Some-clause-first g c = rw c.in-Some.is c.end.ensures.first
