use Rattle.std.proofs.Common.{◌≡◌, sym, ◌∙◌, subst, All, ◌≤◌, true}
use Rattle.items.specs.declared.marks.Tag.{Tag}
use Rattle.items.specs.Items.{numbers_of}
use Rattle.flowgraph.specs.Flowgraph.{net_of}
use Rattle.plant_laws.specs.Stored.{buffer_in}
use Rattle.plant_laws.specs.Changes.{tags_brought}
use Rattle.plant_storage.specs.Delivery.{is_read}
use Rattle.plant_transfers.specs.Rows.{state_in}
use Rattle.plant_transfers.specs.Steps.{stored_with}
use Rattle.plant_transfers.proofs.States.{rows, outputs}
use Rattle.plant_transfers.proofs.Giving as giving
use Rattle.plant_transfers.proofs.outputs.give.Goals as goal

pub push-requires-clause-tags_ahead : goal.push-requires-clause-tags_ahead
push-requires-clause-tags_ahead g c =
    let net = net_of g.B.Block.meaning c.args.graph.now in
    let read : is_read (buffer_in (outputs c.args.buffers.now) c.args.firings.block.0 c.args.port) ≡ true =
    giving.read_is c.args.buffers.now c.args.firings.block.0 c.args.port c.index-buffers-firings.result c.index.result.now c.requires.gives.block c.requires.gives.port c.index.ensures
    ∙ sym c.is_read.ensures ∙ c.if-is_read.true in
    subst (All (λ (t : Tag). (state_in (rows c.args.buffers.now) c.args.firings.block.0 c.args.port).ring.written ≤ t.offset)) (sym c.deref.ensures.value)
    (giving.ahead_of c.args.buffers.now c.args.firings.block.0 c.args.port c.bring.new.list.items
    (tags_brought net (stored_with c.args.handed.now (rows c.args.buffers.now)) c.args.firings.block.0 c.args.port c.args.firings.first c.args.firings.next)
    c.bring.ensures.tags (c.requires.gives.gives.ahead read))

pub returns-else-is_read-clause-outputs : goal.returns-else-is_read-clause-outputs
returns-else-is_read-clause-outputs g c =
    let net = net_of g.B.Block.meaning c.args.graph.now in
    giving.unread_stays (outputs c.args.buffers.now) c.args.firings.block.0 c.args.port (numbers_of c.args.items.now)
    (tags_brought net (stored_with c.args.handed.now (rows c.args.buffers.now)) c.args.firings.block.0 c.args.port c.args.firings.first c.args.firings.next)
    (giving.read_is c.args.buffers.now c.args.firings.block.0 c.args.port c.index-buffers-firings.result c.index.result.now c.requires.gives.block c.requires.gives.port c.index.ensures
    ∙ sym c.is_read.ensures ∙ c.if-is_read.false)
