use Rattle.std.proofs.Common.{get_or, []}
use Rattle.stream_model.specs.Network.{node_at, taken_by}
use Rattle.flowgraph.specs.Flowgraph.{net_of}
use Rattle.plant_laws.specs.Changes.{tags_waiting}
use Rattle.plant_transfers.specs.Steps.{stored_with}
use Rattle.plant_transfers.proofs.States.{rows}
use Rattle.plant_transfers.proofs.Bringing.{below_end_of}
use Rattle.plant_transfers.proofs.brought.bring_from.Goals as goal

pub append_moved-requires-clause-places : goal.append_moved-requires-clause-places
append_moved-requires-clause-places g c =
    let net = net_of g.B.Block.meaning c.args.graph.now in
    let n = node_at net c.args.firings.block.0 in
    let low = below_end_of (taken_by n c.args.port c.args.firings.first) (taken_by n c.args.port c.args.firings.next)
    (get_or (tags_waiting net (stored_with [] (rows c.args.buffers.now)) c.args.firings.block.0) c.args.port []) c.tags_on-tags.result.now c.tags_on-tags.ensures in
    λ k d lt. c.requires.reads.words.places c.args.port (get_or c.tags_on-tags.result.now k d).offset c.requires.port (low k d lt)
