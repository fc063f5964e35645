use Rattle.std.proofs.Common.{length, arith, ap, get_or, inl, inr}
use Rattle.std.proofs.lemmas.List.{length-map}
use Rattle.flowgraph.specs.Flowgraph.{net_of, connection_of}
use Rattle.slices.proofs.Wires.{no_wire, wire_is, in_net, from_in, to_in}
use Rattle.slices.proofs.Turning.{inside, turn_step, turned}
use Rattle.slices.proofs.first_firings.turn.Goals as goal
use Rattle.slices.proofs.first_firings.turn.Goals.{then-raise, else-raise}

pub needed-firing-requires-clause-from : goal.needed-firing-requires-clause-from
needed-firing-requires-clause-from g c =
    from_in g.B.Block.meaning c.args.graph.now c.recall.ensures.runs c.connections-connection-items.result.now c.connections-connection-items.ensures c.loop-connection.connection-index c.loop-connection-test.true

pub needed-firing-requires-clause-to : goal.needed-firing-requires-clause-to
needed-firing-requires-clause-to g c =
    to_in g.B.Block.meaning c.args.graph.now c.recall.ensures.runs c.connections-connection-items.result.now c.connections-connection-items.ensures c.loop-connection.connection-index c.loop-connection-test.true

pub raise-requires : goal.raise-requires
raise-requires g c =
    inside (net_of g.B.Block.meaning c.args.graph.now) c.recall.ensures.runs c.args.reaches.now c.args.first.now c.loop-connection.first c.loop-connection.risen c.loop-connection.connection-index c.loop-connection.invariant
    (in_net g.B.Block.meaning c.args.graph.now c.recall.ensures.runs c.connections-connection-items.result.now c.connections-connection-items.ensures c.loop-connection.connection-index c.loop-connection-test.true)
    (connection_of (get_or c.connections-connection-items.result.now c.loop-connection.connection-index no_wire))
    (wire_is g.B.Block.meaning c.args.graph.now c.recall.ensures.runs c.connections-connection-items.result.now c.connections-connection-items.ensures c.loop-connection.connection-index c.loop-connection-test.true)

pub loop-connection-preserved : goal.loop-connection-preserved
loop-connection-preserved g c =
    turn_step (net_of g.B.Block.meaning c.args.graph.now) c.recall.ensures.runs c.args.reaches.now c.args.first.now c.loop-connection.first c.loop-connection.risen c.loop-connection.connection-index c.loop-connection.invariant
    (in_net g.B.Block.meaning c.args.graph.now c.recall.ensures.runs c.connections-connection-items.result.now c.connections-connection-items.ensures c.loop-connection.connection-index c.loop-connection-test.true)
    (connection_of (get_or c.connections-connection-items.result.now c.loop-connection.connection-index no_wire))
    (wire_is g.B.Block.meaning c.args.graph.now c.recall.ensures.runs c.connections-connection-items.result.now c.connections-connection-items.ensures c.loop-connection.connection-index c.loop-connection-test.true)
    c.needed-firing.result c.needed-firing.ensures.most c.needed-firing.ensures.least c.needed-firing.ensures.enough
    c.raise.new.numbers c.if-raise.risen c.raise.ensures.raised
    (elim c.if-raise.branch [ then-raise w ↦ inl (w.risen-is, c.raise.ensures.lower w.if-raise.true) | else-raise w ↦ inr (w.risen-is, c.raise.ensures.not_lower w.if-raise.false) ])

pub returns : goal.returns
returns g c =
    turned (net_of g.B.Block.meaning c.args.graph.now) c.args.reaches.now c.args.first.now c.loop-connection.first c.loop-connection.risen c.loop-connection.connection-index c.loop-connection.invariant
    (let m = length-map c.args.graph.now.connections connection_of in let e = ap length c.connections-connection-items.ensures in let end = c.loop-connection-test.false in omega arith)
