use Rattle.std.proofs.Common.{◌≡◌, max, map}
use Rattle.std.specs.List.{fold}
use Rattle.stream_model.specs.Lists.{below}
use Rattle.graph_model.specs.Graphs.{gain_at}
use Rattle.flowgraph.proofs.gains.own_gain.Given as goal

abbrev pub invariant-loop-input : goal.invariant-loop-input
invariant-loop-input g l = l.gain ≡ fold max 0 (map (λ p. gain_at ((g.B.Block.meaning l.block).rate p)) (below l.input))
