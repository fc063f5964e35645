use Rattle.std.proofs.Common.{◌≡◌, ◌<◌, ◌+◌, ◌*◌, ℕ, false, length, take, get_or}
use Rattle.graph_model.specs.Graphs.{is_used}
use Rattle.flowgraph.specs.Ports.{net_from, model_side}
use Rattle.flowgraph.proofs.ports.marked.Given as goal

abbrev pub invariant-loop-connection : goal.invariant-loop-connection
invariant-loop-connection l =
    (length l.marks.items ≡ 16 * l.blocks)
    × ((b p : ℕ) → b < l.blocks → p < 16 → get_or l.marks.items (16 * b + p) false ≡ is_used (net_from (take l.connection-index l.connections)) b (model_side l.side) p)
