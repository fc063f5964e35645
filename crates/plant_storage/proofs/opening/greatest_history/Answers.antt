use Rattle.plant_storage.proofs.Beginning.{to_a_block}
use Rattle.plant_storage.proofs.opening.greatest_history.Goals as goal

pub block-requires : goal.block-requires
block-requires g c = to_a_block g.B.Block.meaning c.args.graph.now c.args.connections.now c.loop-connection.connection-index c.requires c.loop-connection-test.true
