use Rattle.items.proofs.Names.{name_test}
use Rattle.flowgraph.proofs.refusals.is_block_name.Goals as goal

pub returns : goal.returns
returns c = name_test 32 c.args.name.now c.is_name.result c.is_name.ensures
