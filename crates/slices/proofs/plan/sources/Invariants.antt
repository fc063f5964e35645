use Rattle.std.proofs.Common.{◌≡◌, map, filter}
use Rattle.stream_model.specs.Lists.{below}
use Rattle.stream_model.specs.Network.{role_at, is_source}
use Rattle.flowgraph.specs.Flowgraph.{net_of}
use Rattle.slices.specs.Plans.{source_of}
use Rattle.slices.proofs.plan.sources.Given as goal

abbrev pub invariant-loop-block : goal.invariant-loop-block
invariant-loop-block g l = l.sources.items ≡ map (source_of l.firings l.overlap) (filter (λ b. is_source (role_at (net_of g.B.Block.meaning l.graph) b)) (below l.block))
