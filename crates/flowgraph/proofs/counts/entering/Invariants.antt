use Rattle.std.proofs.Common.{ℕ, ◌≤◌, get_or}
use Rattle.flowgraph.proofs.CountLemmas.{AreCounts, entering_to}
use Rattle.flowgraph.proofs.counts.entering.Given as goal

abbrev pub invariant-loop-connection : goal.invariant-loop-connection
invariant-loop-connection l =
    AreCounts l.blocks (entering_to l.connections l.connection-index) l.counts.items
    × ((b : ℕ) → get_or l.counts.items b 0 ≤ l.connection-index)
