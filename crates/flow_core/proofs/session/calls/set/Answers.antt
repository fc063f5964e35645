use Rattle.std.proofs.Common.{◌≡◌, ◌∙◌, Some, sym, ap}
use Rattle.stream_model.specs.Meaning.{Meaning}
use Rattle.stream_model.specs.Network.{node_at}
use Rattle.flowgraph.specs.Flowgraph.{net_of}
use Rattle.flow_core.proofs.Sessions.{if_ok}
use Rattle.flow_core.proofs.Settings.{is_inside, tells_no_value}
use Rattle.flow_core.proofs.session.calls.set.Goals as goal

pub returns-in-Err-clause-tells : goal.returns-in-Err-clause-tells
returns-in-Err-clause-tells g c =
    let meaning = g.B.Block.meaning in
    let graph = c.args.plant.now.graph in
    let b = c.args.block.0 in
    let has : (node_at (net_of meaning graph) b).meaning.setting ≡ Some c.in-Some.wanted =
    ap (λ x. (node_at (net_of meaning x) b).meaning.setting) (sym c.graph.ensures) ∙ ap (λ (m : Meaning). m.setting) (sym c.block.ensures.meaning) ∙ sym c.in-Some.ensures in
    if_ok _ _ c.refused-in-Err.result c.refused-in-Err.ensures (λ line e.
    tells_no_value (net_of meaning graph) c.args.plant.now.state b c.args.at c.in-Some.wanted has c.args.numbers.now (is_inside meaning graph b c.requires) c.in-Err.fault line.items c.in-Err.ensures e)
