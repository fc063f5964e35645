-- What is counted in turns over all connections.
use Rattle.std.specs.Prelude.{ℕ, ◌+◌, ◌*◌, List, min, slice_index}
use Rattle.graph_model.specs.Graphs.{most_gain}
use Rattle.flowgraph.specs.declared.parts.Connection.{Connection}

-- what a connection makes of its writer's product: the product times the reader's own gain, up to one more than the
-- limit
abbrev pub carried_to : List ℕ → (ℕ → ℕ) → Connection → ℕ
carried_to own gain c = min (most_gain + 1) (slice_index own c.to.0 * gain c.from.0)

abbrev pub carried : List ℕ → List ℕ → Connection → ℕ
carried own gains c = carried_to own (λ b. slice_index gains b) c
