use Rattle.std.proofs.Common.{◌≡◌, [], drop, map}
use Rattle.toml.specs.View.{items_view}
use Rattle.kinds.specs.Kind.{meaning_of}
use Rattle.graph_file.specs.Steps.{steps}
use Rattle.graph_file.specs.Blocks.{meaning_step}
use Rattle.graph_file.proofs.blocks.blocks_of.Given as goal

abbrev pub invariant-loop-number : goal.invariant-loop-number
invariant-loop-number l =
    steps meaning_step l.number (map meaning_of l.blocks.items) (items_view (drop l.number l.values)) ≡ steps meaning_step 0 [] (items_view l.values)
