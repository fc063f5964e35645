use Rattle.std.proofs.Common.{rules, ◌≡◌, ◌+◌, ◌*◌, ◌<◌, max, length, arith, ap, sym, ◌∙◌, subst, get_or}
use Rattle.std.specs.Prelude.{replicate}
use Rattle.std.proofs.lemmas.List.{length-map, get_or-map, get_or_default}
use Rattle.stream_model.specs.Network as model
use Rattle.stream_model.specs.Network.{no_connection}
use Rattle.flowgraph.specs.Flowgraph.{net_of, connection_of}
use Rattle.rates.specs.Answer.{answer_of}
use Rattle.rates.proofs.Asked.{AreMost, asked_none, asked_more, asked_all}
use Rattle.rates.proofs.Facts.{no_link, link_is, table_fits}
use Rattle.rates.proofs.Largest.{needed_is, needed_few}
use Rattle.rates.proofs.Listed.{first_place}
use Rattle.rates.specs.declared.tables.Link.{Link}
use Rattle.rates.specs.Tables.{link_of}
use Rattle.rates.proofs.sizes.asked.Goals as goal

pub loop-number-init : goal.loop-number-init
loop-number-init g c =
    let net = net_of g.B.Block.meaning c.args.graph.now in
    let nodes = c.len.ensures.nodes in
    let zeros : c.in_ok-asked.asked.items ≡ replicate (16 * length net.nodes) 0 = search rules in
    asked_none net (answer_of c.args.rates.now) c.in_ok-asked.asked.items zeros

pub loop-number-preserved : goal.loop-number-preserved
loop-number-preserved g c =
    let net = net_of g.B.Block.meaning c.args.graph.now in
    let bal = answer_of c.args.rates.now in
    let k = c.loop-number.number in
    let all = c.args.graph.now.connections in
    let wide = length-map all connection_of in
    let same = c.connections-connections.ensures in
    let long = ap length same in
    let lt : k < length net.connections = omega arith in
    let at = ap (λ cs. connection_of (get_or cs k first_place)) same ∙ sym (get_or-map connection_of all k first_place no_connection (omega arith)) in
    let from = ap (λ (c : model.Connection). c.from) at in
    let port = ap (λ (c : model.Connection). c.out_port) at in
    let links_long = ap length c.requires.rates.table ∙ length-map net.connections (link_of net) in
    let in' : k < length c.args.links.now = omega arith in
    let rates = c.requires.rates.rates in
    let links = c.args.links.now in
    let few_takes = (table_fits net rates links c.requires.rates.table k in').takes_few in
    let few_needs = needed_few net c.args.rates.now c.requires.rates.answer k lt in
    let connection = get_or c.connections-connections.result.now k first_place in
    let ends = rates.levels.rises k no_connection lt in
    let in_net : connection.from.0 < length net.nodes = omega (arith, ends, from) in
    let few = c.requires.ports k first_place (omega arith) in
    let seen = ap (λ cs. (get_or cs k first_place).out_port) same in
    let in_side : connection.out_port < 16 = omega (arith, few, seen) in
    let count = c.loop-number.invariant.long in
    let before = c.index.ensures ∙ get_or_default c.loop-number.asked.items (16 * connection.from.0 + connection.out_port) c.index.result.now 0 (omega arith) in
    asked_more net bal k c.loop-number.asked.items c.loop-number.invariant lt connection.from.0 connection.out_port (get_or links k no_link).takes c.needed.result c.max.result
    (sym from) (sym port) in_net in_side (ap (λ (l : Link). l.takes) (link_is net rates links c.requires.rates.table k in'))
    (c.needed.ensures ∙ needed_is net c.args.rates.now c.requires.rates.answer k lt) few_takes (omega (arith, c.needed.ensures, few_needs))
    (c.max.ensures ∙ (λ i. max (before i) (c.max-most.ensures i)))

pub returns : goal.returns
returns g c =
    let net = net_of g.B.Block.meaning c.args.graph.now in
    let wide = length-map c.args.graph.now.connections connection_of in
    let same = ap length c.connections-connections.ensures in
    let end : c.loop-number.number ≡ length net.connections = (let stop = c.loop-number-test.false in omega arith) in
    asked_all net (answer_of c.args.rates.now) c.loop-number.asked.items
    (subst (λ n. AreMost net (answer_of c.args.rates.now) n c.loop-number.asked.items) end c.loop-number.invariant)
