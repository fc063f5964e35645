use Rattle.std.proofs.Common.{map, ℕ, List, Vec}
use Rattle.std.specs.Global.{Global}
use Rattle.flowgraph.specs.Flowgraph.{net_of}
use Rattle.plant_storage.specs.declared.stores.Stores.{Stores}
use Rattle.plant_storage.proofs.Beginning.{opened}
use Rattle.plant_storage.proofs.stores.Stores.open.Goals as goal

pub returns-clause-stored : goal.returns-clause-stored
returns-clause-stored g c =
    let s : Stores = record { handed = c.in_ok-all_handed.field-0; words = c.in_ok-words.field-0; buffers = c.in_ok-buffers.field-0; sinks = c.in_ok-sinks.field-0; brought = c.new.result } in
    opened (net_of g.B.Block.meaning c.args.graph.now) (map {A = Vec ℕ Global} {B = List ℕ} (λ row. row.items) c.args.capacities.now) s c.args.longest c.args.alone
    c.in_ok-all_handed.ensures c.in_ok-words.ensures c.in_ok-buffers.ensures c.in_ok-sinks.ensures

pub returns-clause-handed : goal.returns-clause-handed
returns-clause-handed g c = c.in_ok-all_handed.ensures.handed

pub returns-clause-alone : goal.returns-clause-alone
returns-clause-alone g c = c.in_ok-all_handed.ensures.own
