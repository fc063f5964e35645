use Rattle.std.proofs.Common.{◌≡◌, ◌<◌, ℕ, false, length, take, get_or}
use Rattle.std.specs.List.{All}
use Rattle.flowgraph.specs.declared.parts.Connection.{Connection}
use Rattle.flowgraph.proofs.loops.suspects.Given as goal

abbrev pub invariant-loop-connection : goal.invariant-loop-connection
invariant-loop-connection l =
    (length l.marks.items ≡ length l.ranks)
    × ((b : ℕ) → b < length l.ranks → get_or l.marks.items b false ≡ false →
    (l.fall ≡ false) × All (λ (c : Connection). c.from.0 ≡ b → get_or l.ranks c.from.0 0 < get_or l.ranks c.to.0 0) (take l.connection-index l.connections))
