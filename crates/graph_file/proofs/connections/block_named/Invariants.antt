use Rattle.std.proofs.Common.{◌≡◌, drop}
use Rattle.toml.specs.View.{items_view}
use Rattle.graph_file.specs.Connections.{number_from}
use Rattle.graph_file.proofs.connections.block_named.Given as goal

abbrev pub invariant-loop-number : goal.invariant-loop-number
invariant-loop-number l = number_from l.number l.name (items_view (drop l.number l.blocks)) ≡ number_from 0 l.name (items_view l.blocks)
