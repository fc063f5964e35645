use Rattle.std.proofs.Common.{◌<◌, arith, length, refl}
use Rattle.std.specs.Arc.{arc_value}
use Rattle.std.proofs.lemmas.List.{length-map}
use Rattle.flowgraph.specs.Flowgraph.{net_of, node_of}
use Rattle.plant.proofs.Moves.{counted, handed_long, limited, tape_within}
use Rattle.plant.specs.Plant.{spans_in}
use Rattle.plant.proofs.Spans.{limit_few}
use Rattle.plant.proofs.parts.Parts.own_headway.Goals as goal

pub index-requires : goal.index-requires
index-requires g c =
    let net = net_of g.B.Block.meaning (arc_value c.args.self.now.graph) in
    let long = handed_long net _ (rw (← c.deref.ensures) c.recall.ensures.runs) _ _ c.requires.right.keeps in
    omega (arith, c.requires.block, long, length-map (arc_value c.args.self.now.graph).blocks (node_of g.B.Block.meaning))

pub progress-own-requires : goal.progress-own-requires
progress-own-requires g c =
    omega (arith, c.requires.block, c.requires.right.keeps.sound.progress_count, length-map (arc_value c.args.self.now.graph).blocks (node_of g.B.Block.meaning))

pub returns-clause-short : goal.returns-clause-short
returns-clause-short g c = λ keeps.
    let net = net_of g.B.Block.meaning (arc_value c.args.self.now.graph) in
    let inside : c.args.block.0 < length net.nodes = omega (arith, c.requires.block, length-map (arc_value c.args.self.now.graph).blocks (node_of g.B.Block.meaning)) in
    let within = tape_within net _ (rw (← c.deref.ensures) c.recall.ensures.runs) _ _ c.requires.right.keeps c.args.block.0 inside c.counts_of-tape.result (counted net _ (rw (← c.deref.ensures) c.recall.ensures.runs) _ _ c.requires.right.keeps c.args.block.0 inside c.index.result.now c.counts_of-tape.result c.index.ensures c.counts_of-tape.ensures) in
    let limit = limited net _ (rw (← c.deref.ensures) c.recall.ensures.runs) _ _ c.requires.right.keeps c.args.block.0 inside c.index.result.now c.index.ensures in
    let long = handed_long net _ (rw (← c.deref.ensures) c.recall.ensures.runs) _ _ c.requires.right.keeps in
    let few = limit_few (spans_in c.args.self.now) keeps c.args.self.now.stores.handed.items refl c.args.block.0 c.index.result.now c.index.ensures (omega (arith, inside, long)) in
    omega (arith, within, limit, few)
