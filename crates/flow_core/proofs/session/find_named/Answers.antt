use Rattle.flow_core.proofs.Naming.{found_inside}
use Rattle.flow_core.proofs.session.find_named.Goals as goal

pub returns-clause-inside : goal.returns-clause-inside
returns-clause-inside g c = found_inside g.B.Block.meaning c.args.graph.now c.recall.ensures.valid c.args.name.now c.find.result c.find.ensures
