use Rattle.std.proofs.Common.{◌≡◌, ◌<◌, ◌+◌, ◌*◌, ℕ, true, false, get_or}
use Rattle.flowgraph.proofs.ports.gap_below.Given as goal

abbrev pub invariant-loop-port : goal.invariant-loop-port
invariant-loop-port l = (k : ℕ) → k < l.port → get_or l.marks (16 * l.block + k) false ≡ true
