use Rattle.std.specs.Prelude.{⊤, MatchOption}
use Rattle.std.proofs.Common.{◌≡◌, [], length, subst}
use Rattle.flowgraph.specs.Flowgraph.{Flowgraph, net_of}
use Rattle.slices.specs.Firings.{looks_of}
use Rattle.slices.specs.Plans.{AreLater}
use Rattle.slices.proofs.GoingOn.{gone_on_graph}
use Rattle.slices.proofs.later.later_graph.Goals as goal

pub returns-in-Ok : goal.returns-in-Ok
returns-in-Ok g c =
    let meaning = g.B.Block.meaning in
    let net = net_of meaning c.args.graph.now in
    let ls = looks_of g.B.Forgets.looks_back c.args.graph.now in
    let whole = subst
    (λ found. MatchOption found ⊤ (λ (made : Flowgraph _). (made.connections ≡ []) × AreLater net c.args.firings.now ls c.args.iterations (length c.args.graph.now.blocks) (net_of meaning made).nodes))
    c.in-Some.is c.in_ok-made.ensures in
    gone_on_graph meaning c.args.graph.now c.in-Some.made c.in_ok-connected.field-0 c.in-Ok.valid c.args.firings.now ls c.args.iterations c.recall.ensures.runs
    c.in-Ok.ensures.valid c.in_ok-connected.ensures.blocks c.in_ok-connected.ensures.connections whole.0 whole.1
