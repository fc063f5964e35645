use Rattle.std.proofs.Common.{◌≡◌, drop}
use Rattle.toml.specs.View.{items_view}
use Rattle.graph_file.specs.Steps.{steps, StepsTake}
use Rattle.graph_file.specs.Blocks.{drafted, block_step, BlockTakes}
use Rattle.graph_file.proofs.blocks.add_blocks.Given as goal

abbrev pub invariant-loop-number : goal.invariant-loop-number
invariant-loop-number l =
    (steps block_step l.number (drafted l.graph) (items_view (drop l.number l.values)) ≡ steps block_step 0 (drafted l.initial.graph) (items_view l.values))
    × (StepsTake block_step BlockTakes l.number (drafted l.graph) (items_view (drop l.number l.values)) → StepsTake block_step BlockTakes 0 (drafted l.initial.graph) (items_view l.values))
