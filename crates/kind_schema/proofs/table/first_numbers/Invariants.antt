use Rattle.std.proofs.Common.{◌≡◌, ◌++◌, drop}
use Rattle.toml.specs.View.{items_view}
use Rattle.arrayvec.specs.ArrayVec.{array_vec_len}
use Rattle.kind_schema.specs.Tables.{numbers_of}
use Rattle.kind_schema.proofs.table.first_numbers.Given as goal

abbrev pub invariant-loop-value : goal.invariant-loop-value
invariant-loop-value g l =
    (l.numbers.items ++ numbers_of (items_view (drop l.value-index l.first)) ≡ numbers_of (items_view l.first)) × (array_vec_len l.numbers ≡ l.value-index)
