use Rattle.rate_blocks.proofs.counted.CountedBlock.shape.Goals as goal

pub returns-clause-shape : goal.returns-clause-shape
returns-clause-shape g c = c.shape.ensures.shape c.args._input

pub returns-clause-placed : goal.returns-clause-placed
returns-clause-placed g c = c.shape.ensures.placed c.args._input
