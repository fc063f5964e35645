use Rattle.std.proofs.Common.{◌≡◌, ◌<◌, length, arith}
use Rattle.std.specs.Arc.{arc_value}
use Rattle.stream_model.specs.Network.{used_outputs}
use Rattle.flowgraph.specs.Flowgraph.{net_of}
use Rattle.plant.proofs.Kept.{is_kept}
use Rattle.plant.proofs.parts.Parts.stored.Goals as goal

pub returns-clause-kept : goal.returns-clause-kept
returns-clause-kept g c =
    let net = net_of g.B.Block.meaning (arc_value c.args.self.now.graph) in
    let nodes : c.len.result ≡ length net.nodes = rw (← c.deref-2.ensures) c.len.ensures.nodes in
    let in' : c.args.block.0 < length net.nodes = omega (arith, nodes, c.if-len-block.false) in
    let many : c.outputs.result ≡ used_outputs net c.args.block.0 = rw (← c.deref-3.ensures) c.outputs.ensures.value in
    let used : c.args.port < used_outputs net c.args.block.0 = omega (arith, many, c.if-outputs-port.false) in
    is_kept net _ _ _ (rw (← c.deref.ensures) c.recall.ensures.runs) c.requires.keeps.sound c.requires.keeps.stored c.args.block.0 c.args.port in' used _ c.kept.ensures.tags c.kept.ensures.all c.kept.ensures.near c.kept.ensures.none
