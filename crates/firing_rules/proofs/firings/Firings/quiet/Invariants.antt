use Rattle.std.proofs.Common.{◌≡◌, ◌<◌, ℕ, true}
use Rattle.flowgraph.specs.Flowgraph.{net_of}
use Rattle.firing_rules.specs.State.{lent, rows_of}
use Rattle.firing_rules.specs.Decision.{rests}
use Rattle.firing_rules.proofs.firings.Firings.quiet.Given as goal

abbrev pub invariant-loop-block : goal.invariant-loop-block
invariant-loop-block g l = (k : ℕ) → k < l.block → rests (net_of g.B.Block.meaning l.graph) (rows_of (λ row. row.items) l.capacities) (lent (g.T.Tapes.tapes l.tapes) l.self) k ≡ true
