use Rattle.std.proofs.Common.{◌<◌, length, arith, ap, sym, ◌∙◌, subst, get_or}
use Rattle.std.proofs.lemmas.List.{length-map, get_or-map}
use Rattle.stream_model.specs.Network.{no_connection}
use Rattle.stream_model.specs.Network as model
use Rattle.flowgraph.specs.Flowgraph.{net_of, node_of, connection_of}
use Rattle.rates.proofs.Listed.{grown, first_place}
use Rattle.rates.proofs.tables.links.Goals as goal

pub link_on-requires-clause-ends : goal.link_on-requires-clause-ends
link_on-requires-clause-ends g c =
    let k = c.loop-connection.connection-index in
    let all = c.args.graph.now.connections in
    let same = c.connections-connections.ensures in
    let long = ap length same in
    let wide = length-map all connection_of in
    let ends = c.requires.levels.rises k no_connection (omega arith) in
    let at = get_or-map connection_of all k first_place no_connection (omega arith) in
    let blocks = length-map c.args.graph.now.blocks (node_of g.B.Block.meaning) in
    let from = ap (λ (c : model.Connection). c.from) at in
    let to = ap (λ (c : model.Connection). c.to) at in
    let first = ends.0 in
    let second = ends.1 in
    let both : ((get_or all k first_place).from.0 < length c.args.graph.now.blocks) × ((get_or all k first_place).to.0 < length c.args.graph.now.blocks) = (omega arith, omega arith) in
    subst (λ cs. ((get_or cs k first_place).from.0 < length c.args.graph.now.blocks) × ((get_or cs k first_place).to.0 < length c.args.graph.now.blocks)) (sym same) both

pub loop-connection-preserved : goal.loop-connection-preserved
loop-connection-preserved g c =
    c.in_ok-push.ensures.items
    ∙ grown (net_of g.B.Block.meaning c.args.graph.now) c.args.graph.now.connections c.connections-connections.result.now c.loop-connection.links.items c.loop-connection.connection-index c.link_on.result
    c.connections-connections.ensures c.loop-connection-test.true c.loop-connection.invariant c.link_on.ensures
