use Rattle.std.proofs.Common.{◌<◌, ◌≤◌, ℕ, get_or}
use Rattle.graph_model.specs.Graphs.{most_gain}
use Rattle.flowgraph.proofs.gains.greatest_gain.Given as goal

abbrev pub invariant-steep : goal.invariant-steep
invariant-steep g l = (k : ℕ) → k < l.block → get_or l.gains.items k 0 ≤ most_gain
