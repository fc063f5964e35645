use Rattle.std.proofs.Common.{◌≡◌, ◌+◌, ◌*◌, ◌<◌, max, length, get_or, arith, ap, ◌∙◌}
use Rattle.std.proofs.lemmas.List.{length-map}
use Rattle.stream_model.specs.Firings.{gives}
use Rattle.stream_model.specs.Network.{node_at}
use Rattle.graph_model.specs.Rates.{balance_of, capacity_of}
use Rattle.flowgraph.specs.Flowgraph.{net_of, node_of}
use Rattle.rates.proofs.Listed.{more_numbers}
use Rattle.rates.proofs.sizes.row.Goals as goal

pub loop-port-preserved : goal.loop-port-preserved
loop-port-preserved g c =
    let net = net_of g.B.Block.meaning c.args.graph.now in
    let b = c.args.block.0 in
    let port = c.loop-port.port in
    let nodes = length-map c.args.graph.now.blocks (node_of g.B.Block.meaning) in
    let low : b < length net.nodes = (let there = c.requires.there in omega arith) in
    let few : port < 16 = (let used = c.outputs-outputs.ensures.few in let next = c.loop-port-test.true in omega arith) in
    let own : c.max-own.result ≡ max (node_at net b).capacity (gives (node_at net b)) =
    (let capacity = c.options.ensures.node.capacity in let from = c.from.ensures in let given = c.gives.ensures in omega (arith, c.max-own.ensures)) in
    let whole = c.max-capacity.ensures ∙ ap (λ x. max x (get_or c.args.asked.now (16 * b + port) 0)) own ∙ c.requires.asked.are b port low few in
    c.in_ok-push.ensures.items ∙ more_numbers (capacity_of net (balance_of net) b) c.loop-port.row.items port c.max-capacity.result c.loop-port.invariant whole
