use Rattle.std.proofs.Common.{◌≡◌, ℕ, true, false, take, get_or}
use Rattle.std.specs.Prelude.{◌==◌, ◌||◌}
use Rattle.std.specs.List.{All}
use Rattle.graph_model.specs.Graphs.{Reaches}
use Rattle.flowgraph.specs.declared.parts.Connection.{Connection}
use Rattle.flowgraph.specs.Ports.{net_from}
use Rattle.flowgraph.proofs.loops.spread.Given as goal

abbrev pub invariant-loop-connection : goal.invariant-loop-connection
invariant-loop-connection l =
    All (λ (c : Connection). (c.from.0 == l.start || get_or l.initial.reached c.from.0 false) ≡ true → get_or l.reached c.to.0 false ≡ true) (take l.connection-index l.connections)
    × ((b : ℕ) → get_or l.initial.reached b false ≡ true → get_or l.reached b false ≡ true)
    × (((b : ℕ) → get_or l.initial.reached b false ≡ true → Reaches (net_from l.connections) l.start b) →
    (b : ℕ) → get_or l.reached b false ≡ true → Reaches (net_from l.connections) l.start b)
