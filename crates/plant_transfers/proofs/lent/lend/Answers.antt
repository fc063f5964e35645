use Rattle.std.proofs.Common.{arith}
use Rattle.std.proofs.lemmas.List.{length-map}
use Rattle.flowgraph.specs.Flowgraph.{net_of, node_of}
use Rattle.plant_storage.specs.Stores.{tape_of}
use Rattle.plant_transfers.proofs.PlaceLists.{still_hold_windows, still_hold_outputs}
use Rattle.plant_transfers.proofs.lent.lend.Goals as goal

pub index-requires : goal.index-requires
index-requires g c = omega (arith, c.requires.inside, c.requires.places.tapes, length-map c.args.stores.now.handed.items tape_of)

pub lend_settings-requires-clause-block : goal.lend_settings-requires-clause-block
lend_settings-requires-clause-block g c = omega (arith, c.requires.inside, length-map c.args.graph.now.blocks (node_of g.B.Block.meaning))

pub gives-room-requires-clause-block : goal.gives-room-requires-clause-block
gives-room-requires-clause-block g c = omega (arith, c.requires.inside, length-map c.args.graph.now.blocks (node_of g.B.Block.meaning))

pub outputs-requires : goal.outputs-requires
outputs-requires g c = omega (arith, c.requires.inside, length-map c.args.graph.now.blocks (node_of g.B.Block.meaning))

pub output_type-requires : goal.output_type-requires
output_type-requires g c = omega (arith, c.requires.inside, length-map c.args.graph.now.blocks (node_of g.B.Block.meaning))

pub returns-clause-keeps : goal.returns-clause-keeps
returns-clause-keeps g c k next enough =
    let net = net_of g.B.Block.meaning c.args.graph.now in
    record {
      seen = still_hold_windows net c.args.block.0 k next c.args.lent.now.windows.items c.lend_windows.new.windows.items (c.in_ok-lend_windows.ensures.keeps enough.seen.are) enough.seen;
      given = still_hold_outputs net c.args.block.0 k next c.args.lent.now.outputs.items c.ready_places.new.places.items
          (c.ready_places.ensures.keeps (rw (c.output_type.ensures, c.outputs.ensures.value) enough.given.are)) enough.given;
    }
