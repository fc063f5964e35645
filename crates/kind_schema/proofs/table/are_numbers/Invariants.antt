use Rattle.std.proofs.Common.{◌≡◌, drop}
use Rattle.toml.specs.View.{items_view}
use Rattle.kind_schema.specs.Tables.{each_item, is_number}
use Rattle.kind_schema.proofs.table.are_numbers.Given as goal

abbrev pub invariant-loop-value : goal.invariant-loop-value
invariant-loop-value l = each_item is_number (items_view (drop l.value-index l.values)) ≡ each_item is_number (items_view l.values)
