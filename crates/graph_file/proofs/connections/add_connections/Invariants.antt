use Rattle.std.proofs.Common.{◌≡◌, drop}
use Rattle.toml.specs.View.{items_view}
use Rattle.graph_file.specs.Steps.{steps, StepsTake}
use Rattle.graph_file.specs.Blocks.{drafted}
use Rattle.graph_file.specs.Connections.{connect_step, ConnectTakes}
use Rattle.graph_file.proofs.connections.add_connections.Given as goal

abbrev pub invariant-loop-number : goal.invariant-loop-number
invariant-loop-number l =
    let step = connect_step (items_view l.blocks) in
    let Takes = ConnectTakes (items_view l.blocks) in
    (steps step l.number (drafted l.graph) (items_view (drop l.number l.values)) ≡ steps step 0 (drafted l.initial.graph) (items_view l.values))
    × (StepsTake step Takes l.number (drafted l.graph) (items_view (drop l.number l.values)) → StepsTake step Takes 0 (drafted l.initial.graph) (items_view l.values))
