use Rattle.std.proofs.Common.{ℕ, ◌<◌}
use Rattle.flowgraph.specs.Flowgraph.{net_of}
use Rattle.pipeline.specs.Pipeline.{Lacks, end_at}
use Rattle.pipeline.proofs.pipeline.Pipeline.any_lacking.Given as goal

-- none so far does
abbrev pub invariant-loop-block : goal.invariant-loop-block
invariant-loop-block g l = (b : ℕ) → b < l.block → Lacks (net_of g.B.Block.meaning l.self.plant.plant.graph) l.self.plant b (end_at l.self.ends.items b) → ⊥
