use Rattle.std.proofs.Common.{length, refl, arith}
use Rattle.std.proofs.lemmas.Option.{slice_get_read}
use Rattle.flowgraph.proofs.AskedLemmas.{kept}
use Rattle.flowgraph.proofs.valid.Valid.pace.Goals as goal

pub returns-then-port-len : goal.returns-then-port-len
returns-then-port-len g c =
    let paces = c.index.result.now.paces.items in
    let low = c.if-port-len.true in
    let len = c.len.ensures in
    (kept g.B.Block.meaning _ _ c.self.view_is c.self.inside.asked.items c.self.invariant.2 c.args.block.0 c.requires c.index.result.now c.index.ensures).paces
    c.args.port c.index-then-port-len.result.now
    (slice_get_read paces (length paces) c.args.port c.index-then-port-len.result.now refl (omega arith) c.index-then-port-len.ensures)
