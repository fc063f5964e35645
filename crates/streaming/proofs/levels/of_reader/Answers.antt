use Rattle.std.proofs.Common.{◌<◌, length, ap, arith}
use Rattle.std.proofs.lemmas.List.{length-map}
use Rattle.std.specs.Arc.{arc_value}
use Rattle.stream_model.specs.Network.{Progress}
use Rattle.flowgraph.specs.Flowgraph.{net_of, node_of}
use Rattle.streaming.proofs.Counted.{few_firings, few_taken, input_there, writer_there}
use Rattle.streaming.proofs.levels.of_reader.Goals as goal

pub taken-taken-requires-clause-firings : goal.taken-taken-requires-clause-firings
taken-taken-requires-clause-firings g c =
    let graph = arc_value c.args.parts.now.graph in
    let net = net_of g.B.Block.meaning graph in
    let in' : c.args.block.0 < length net.nodes = rw length-map c.requires.block in
    rw (c.deref-2.ensures, ap (λ (p : Progress). p.firings) c.progress-fired.ensures.value)
    (few_firings net _ (rw (← c.deref.ensures) c.recall.ensures.runs) _ _ c.requires.right.keeps graph.names (rw (← c.deref.ensures) c.recall.ensures.valid) c.args.block.0 in')

pub taken-taken-requires-clause-taken : goal.taken-taken-requires-clause-taken
taken-taken-requires-clause-taken g c =
    let graph = arc_value c.args.parts.now.graph in
    let net = net_of g.B.Block.meaning graph in
    let in' : c.args.block.0 < length net.nodes = rw length-map c.requires.block in
    rw (c.deref-2.ensures, ap (λ (p : Progress). p.firings) c.progress-fired.ensures.value)
    (few_taken net _ (rw (← c.deref.ensures) c.recall.ensures.runs) _ _ c.requires.right.keeps graph.names (rw (← c.deref.ensures) c.recall.ensures.valid) c.args.block.0 in'
    (input_there net (rw (← c.deref.ensures) c.recall.ensures.runs) c.args.block.0 c.args.writer.0 c.requires.writes))

pub given_by-requires-2-clause-block : goal.given_by-requires-2-clause-block
given_by-requires-2-clause-block g c =
    let graph = arc_value c.args.parts.now.graph in
    let net = net_of g.B.Block.meaning graph in
    let low = writer_there net (rw (← c.deref.ensures) c.recall.ensures.runs) c.args.block.0 c.args.writer.0 c.requires.writes in
    omega (arith, low, length-map graph.blocks (node_of g.B.Block.meaning))
