use Rattle.std.proofs.Common.{◌≡◌, ℕ, ◌<◌, true, get_or}
use Rattle.stream_model.specs.Network.{node_at}
use Rattle.graph_model.specs.Rates.{is_past_skip}
use Rattle.flowgraph.specs.Flowgraph.{net_of}
use Rattle.slices.proofs.past.are_past.Given as goal

abbrev pub invariant-loop-block : goal.invariant-loop-block
invariant-loop-block g l = (b : ℕ) → b < l.block → is_past_skip (node_at (net_of g.B.Block.meaning l.graph) b).meaning.shift (get_or l.counts b 0) ≡ true
