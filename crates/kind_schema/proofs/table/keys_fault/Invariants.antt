use Rattle.std.proofs.Common.{◌≡◌, drop}
use Rattle.toml.specs.View.{table_view}
use Rattle.kind_schema.specs.Tables.{keys_fault}
use Rattle.kind_schema.proofs.table.keys_fault.Given as goal

abbrev pub invariant-loop-key : goal.invariant-loop-key
invariant-loop-key l = keys_fault (table_view l.table) (drop l.key-index l.keys) ≡ keys_fault (table_view l.table) l.keys
