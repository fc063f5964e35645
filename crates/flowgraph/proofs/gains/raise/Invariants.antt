use Rattle.std.proofs.Common.{◌≡◌, ◌≤◌, ℕ, false, take, get_or}
use Rattle.std.specs.List.{All}
use Rattle.flowgraph.specs.declared.parts.Connection.{Connection}
use Rattle.flowgraph.specs.Turns.{carried, carried_to}
use Rattle.flowgraph.proofs.gains.raise.Given as goal

abbrev pub invariant-loop-connection : goal.invariant-loop-connection
invariant-loop-connection l =
    All (λ (c : Connection). carried l.own l.initial.gains c ≤ get_or l.gains c.to.0 0) (take l.connection-index l.connections)
    × ((b : ℕ) → get_or l.initial.gains b 0 ≤ get_or l.gains b 0)
    × ((most : ℕ → ℕ) → ((b : ℕ) → get_or l.initial.gains b 0 ≤ most b) → All (λ (c : Connection). carried_to l.own most c ≤ most c.to.0) l.connections → (b : ℕ) → get_or l.gains b 0 ≤ most b)
    × (l.raised ≡ false → l.gains ≡ l.initial.gains)
