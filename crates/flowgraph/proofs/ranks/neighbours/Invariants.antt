use Rattle.std.proofs.Common.{◌≡◌, ◌<◌, length, map, Vec, Global, ℕ}
use Rattle.std.specs.List.{All}
use Rattle.flowgraph.proofs.ranks.neighbours.Given as goal

abbrev pub invariant-loop-connection : goal.invariant-loop-connection
invariant-loop-connection l = (length l.rows.items ≡ l.blocks) × All (All (λ b. b < l.blocks)) (map (λ (row : Vec ℕ Global). row.items) l.rows.items)
