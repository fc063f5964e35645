use Rattle.std.proofs.Common.{ℕ, ◌<◌, ◌≤◌}
use Rattle.flowgraph.specs.Flowgraph.{net_of}
use Rattle.pipeline.specs.Asking.{AwaitsNone}
use Rattle.pipeline.proofs.pipeline.Pipeline.first_awaiting.Given as goal

-- none so far does
abbrev pub invariant-loop-block : goal.invariant-loop-block
invariant-loop-block g l = (k : ℕ) → l.from ≤ k → k < l.block → AwaitsNone (net_of g.B.Block.meaning l.self.plant.plant.graph) l.self.plant l.self.ends.items k
