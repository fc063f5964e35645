use Rattle.std.proofs.Common.{◌≡◌, map, arith, ap, sym, subst, ◌∙◌, ℕ, List, Vec}
use Rattle.std.specs.Global.{Global}
use Rattle.stream_model.specs.Meaning.{Meaning}
use Rattle.stream_model.specs.Network.{node_at}
use Rattle.stream_model.specs.Machine.{capacity_at}
use Rattle.flowgraph.specs.Flowgraph.{net_of, connection_of}
use Rattle.plant_laws.specs.Stored.{OutputBuffer}
use Rattle.plant_laws.specs.Holds.{greatest_history}
use Rattle.plant_storage.specs.Opening.{LeadInside, history_among}
use Rattle.plant_storage.proofs.Beginning.{to_a_block, readers_inside, some_history, each_history, reader_added}
use Rattle.plant_storage.proofs.opening.buffer.Goals as goal

pub greatest_history-greatest-requires : goal.greatest_history-greatest-requires
greatest_history-greatest-requires g c =
    let net = net_of g.B.Block.meaning c.args.graph.now in
    subst (LeadInside net) (sym c.readers-readers.ensures) (readers_inside net c.recall.ensures.runs c.args.block.0 c.args.port)

pub new-requires-clause-some_history : goal.new-requires-clause-some_history
new-requires-clause-some_history g c =
    omega (arith, c.greatest_history-greatest.ensures, some_history (net_of g.B.Block.meaning c.args.graph.now) (map connection_of c.readers-readers.result.now))

pub block-requires-in-loop-connection : goal.block-requires-in-loop-connection
block-requires-in-loop-connection g c =
    let net = net_of g.B.Block.meaning c.args.graph.now in
    to_a_block g.B.Block.meaning c.args.graph.now c.readers-readers.result.now c.loop-connection.connection-index
    (subst (LeadInside net) (sym c.readers-readers.ensures) (readers_inside net c.recall.ensures.runs c.args.block.0 c.args.port)) c.loop-connection-test.true

pub add_reader-requires-clause-short : goal.add_reader-requires-clause-short
add_reader-requires-clause-short g c =
    let net = net_of g.B.Block.meaning c.args.graph.now in
    let reads : c.history.result ≡ _ = c.history.ensures ∙ ap (λ (m : Meaning). m.history) c.block-in-loop-connection.ensures.meaning in
    let greatest : c.loop-connection.buffer.ring.greatest ≡ history_among net (map connection_of c.readers-readers.result.now) =
    ap (λ (b : OutputBuffer). b.ring.greatest) c.loop-connection.invariant ∙ ap (history_among net) (sym c.readers-readers.ensures) in
    let least = each_history net c.readers-readers.result.now c.loop-connection.connection-index c.loop-connection-test.true in
    omega (arith, reads, greatest, least)

pub loop-connection-preserved : goal.loop-connection-preserved
loop-connection-preserved g c =
    let net = net_of g.B.Block.meaning c.args.graph.now in
    let b = c.args.block.0 in
    reader_added net (node_at net b).meaning.outputs.item (capacity_at (map {A = Vec ℕ Global} {B = List ℕ} (λ row. row.items) c.args.capacities.now) b c.args.port) (greatest_history net b c.args.port)
    c.readers-readers.result.now c.loop-connection.connection-index c.history.result c.loop-connection.buffer c.add_reader.new.self c.loop-connection-test.true c.loop-connection.invariant
    (c.history.ensures ∙ ap (λ (m : Meaning). m.history) c.block-in-loop-connection.ensures.meaning) c.in_ok-add_reader.ensures.ok
