use Rattle.std.proofs.Common.{◌≡◌, ◌≤◌, ℕ, true, false, length, get_or}
use Rattle.graph_model.specs.Graphs.{Reaches}
use Rattle.flowgraph.specs.Ports.{net_from}
use Rattle.flowgraph.proofs.TurnLemmas.{arrives}
use Rattle.flowgraph.proofs.loops.reaches_itself.Given as goal

abbrev pub invariant-turns : goal.invariant-turns
invariant-turns l =
    (length l.reached.items ≡ l.blocks)
    × (get_or l.reached.items l.start false ≡ false)
    × ((t b : ℕ) → t ≤ l.counter → arrives l.connections l.start t b ≡ true → get_or l.reached.items b false ≡ true)
    × ((b : ℕ) → get_or l.reached.items b false ≡ true → Reaches (net_from l.connections) l.start b)
