use Rattle.std.proofs.Common.{◌≡◌, map, filter}
use Rattle.stream_model.specs.Lists.{below}
use Rattle.stream_model.specs.Network.{role_at, is_keeper}
use Rattle.flowgraph.specs.Flowgraph.{net_of}
use Rattle.slices.specs.Plans.{sink_at}
use Rattle.slices.proofs.plan.sinks.Given as goal

abbrev pub invariant-loop-block : goal.invariant-loop-block
invariant-loop-block g l =
    l.sinks.items ≡ map (sink_at (net_of g.B.Block.meaning l.graph) l.firings l.first l.tagged l.there l.more) (filter (λ b. is_keeper (role_at (net_of g.B.Block.meaning l.graph) b)) (below l.block))
