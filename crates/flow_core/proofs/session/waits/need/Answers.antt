use Rattle.flow_core.proofs.Needing.{need_inside, need_value}
use Rattle.flow_core.proofs.session.waits.need.Goals as goal

pub returns-clause-value : goal.returns-clause-value
returns-clause-value g c = need_value g.B.Block.meaning c.args.plant.now c.recall.ensures.runs c.args.block.0 c.requires c.in-Ok.need c.in-Ok.ensures

pub returns-clause-inside : goal.returns-clause-inside
returns-clause-inside g c = need_inside g.B.Block.meaning c.args.plant.now c.recall.ensures.runs c.args.block.0 c.requires c.in-Ok.need c.in-Ok.ensures
