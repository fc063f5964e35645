use Rattle.std.proofs.Common.{◌≡◌, ◌++◌, ◌≤◌, drop, length, vec_len, vec_capacity}
use Rattle.toml.specs.View.{items_view}
use Rattle.kind_schema.specs.Tables.{numbers_of}
use Rattle.kind_schema.proofs.table.numbers_of.Given as goal

abbrev pub invariant-loop-value : goal.invariant-loop-value
invariant-loop-value l =
    (l.numbers.items ++ numbers_of (items_view (drop l.value-index l.values)) ≡ numbers_of (items_view l.values))
    × (vec_len l.numbers ≡ l.value-index) × (length l.values ≤ vec_capacity l.numbers)
