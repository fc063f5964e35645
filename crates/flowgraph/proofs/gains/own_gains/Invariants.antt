use Rattle.std.proofs.Common.{◌≡◌, map, take}
use Rattle.graph_model.specs.Graphs.{gain_of}
use Rattle.flowgraph.proofs.gains.own_gains.Given as goal

abbrev pub invariant-loop-entry : goal.invariant-loop-entry
invariant-loop-entry g l = l.own.items ≡ map (λ e. gain_of (g.B.Block.meaning e.block)) (take l.entry-index l.blocks)
