use Rattle.flowgraph.proofs.AskedLemmas.{kept}
use Rattle.flowgraph.proofs.valid.Valid.multiple.Goals as goal

pub returns : goal.returns
returns g c = (kept g.B.Block.meaning _ _ c.self.view_is c.self.inside.asked.items c.self.invariant.2 c.args.block.0 c.requires c.index.result.now c.index.ensures).multiple
