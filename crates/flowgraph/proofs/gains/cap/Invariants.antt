use Rattle.std.proofs.Common.{◌≡◌, ◌<◌, ◌≤◌, ◌+◌, ℕ, min, get_or}
use Rattle.graph_model.specs.Graphs.{most_gain}
use Rattle.flowgraph.proofs.gains.cap.Given as goal

abbrev pub invariant-loop-gain : goal.invariant-loop-gain
invariant-loop-gain l =
    ((k : ℕ) → k < l.gain-index → get_or l.gains k 0 ≡ min (most_gain + 1) (get_or l.initial.gains k 0))
    × ((k : ℕ) → l.gain-index ≤ k → get_or l.gains k 0 ≡ get_or l.initial.gains k 0)
