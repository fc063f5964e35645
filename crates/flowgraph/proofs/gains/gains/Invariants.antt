use Rattle.std.proofs.Common.{◌≡◌, ◌<◌, ◌≤◌, ◌+◌, ℕ, [], min, length, get_or}
use Rattle.graph_model.specs.Graphs.{gain_by, block_gain, most_gain}
use Rattle.flowgraph.specs.Flowgraph.{net_of, graph_of}
use Rattle.flowgraph.proofs.gains.gains.Given as goal

abbrev pub invariant-turns : goal.invariant-turns
invariant-turns g l =
    (length l.gains.items ≡ length l.blocks)
    × ((b : ℕ) → b < length l.blocks → min (most_gain + 1) (block_gain (net_of g.B.Block.meaning (graph_of [] l.blocks l.connections)) b) ≤ get_or l.gains.items b 0)
    × ((b : ℕ) → b < length l.blocks → min (most_gain + 1) (gain_by l.counter (net_of g.B.Block.meaning (graph_of [] l.blocks l.connections)) b) ≤ get_or l.gains.items b 0)
    × ((b : ℕ) → get_or l.gains.items b 0 ≤ min (most_gain + 1) (gain_by (length l.blocks) (net_of g.B.Block.meaning (graph_of [] l.blocks l.connections)) b))
