use Rattle.std.proofs.Common.{◌≡◌, ◌<◌, ◌≤◌, ◌+◌, ◌-◌, ◌*◌, ℕ, true, false, get_or}
use Rattle.flowgraph.proofs.ports.count_of.Given as goal

abbrev pub invariant-loop-port : goal.invariant-loop-port
invariant-loop-port l =
    (l.count ≤ l.port)
    × (0 < l.count → get_or l.marks (16 * l.block + (l.count - 1)) false ≡ true)
    × ((p : ℕ) → l.count ≤ p → p < l.port → get_or l.marks (16 * l.block + p) false ≡ false)
