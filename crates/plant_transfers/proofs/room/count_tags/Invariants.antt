use Rattle.std.proofs.Common.{◌≡◌, ◌+◌, take, length}
use Rattle.std.specs.Prelude.{sum_by}
use Rattle.flowgraph.specs.Flowgraph.{net_of}
use Rattle.plant_storage.specs.Stores.{stored_in}
use Rattle.plant_transfers.specs.Tags.{tags_on_items}
use Rattle.plant_transfers.proofs.room.count_tags.Given as goal

abbrev pub invariant-loop-port : goal.invariant-loop-port
invariant-loop-port g l = l.tags ≡ sum_by length (take l.port (tags_on_items (net_of g.B.Block.meaning l.graph) (stored_in l.stores) l.fn.block.0 l.first (l.first + l.count)))
