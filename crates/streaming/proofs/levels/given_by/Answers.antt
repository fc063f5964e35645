use Rattle.std.proofs.Common.{◌<◌, length, ap}
use Rattle.std.proofs.lemmas.List.{length-map}
use Rattle.std.specs.Arc.{arc_value}
use Rattle.stream_model.specs.Network.{Progress}
use Rattle.flowgraph.specs.Flowgraph.{net_of}
use Rattle.streaming.proofs.Counted.{few_firings, few_given}
use Rattle.streaming.proofs.levels.given_by.Goals as goal

pub given-requires-clause-firings : goal.given-requires-clause-firings
given-requires-clause-firings g c =
    let graph = arc_value c.args.parts.now.graph in
    let net = net_of g.B.Block.meaning graph in
    let in' : c.args.block.0 < length net.nodes = rw length-map c.requires.block in
    rw (c.deref-2.ensures, ap (λ (p : Progress). p.firings) c.progress-fired.ensures.value)
    (few_firings net _ (rw (← c.deref.ensures) c.recall.ensures.runs) _ _ c.requires.right.keeps graph.names (rw (← c.deref.ensures) c.recall.ensures.valid) c.args.block.0 in')

pub given-requires-clause-given : goal.given-requires-clause-given
given-requires-clause-given g c =
    let graph = arc_value c.args.parts.now.graph in
    let net = net_of g.B.Block.meaning graph in
    let in' : c.args.block.0 < length net.nodes = rw length-map c.requires.block in
    rw (c.deref-2.ensures, ap (λ (p : Progress). p.firings) c.progress-fired.ensures.value)
    (few_given net _ (rw (← c.deref.ensures) c.recall.ensures.runs) _ _ c.requires.right.keeps graph.names (rw (← c.deref.ensures) c.recall.ensures.valid) c.args.block.0 in')
