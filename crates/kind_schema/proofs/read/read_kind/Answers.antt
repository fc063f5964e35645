use Rattle.std.proofs.Common.{sym, ◌∙◌}
use Rattle.toml.specs.View.{table_view}
use Rattle.kind_schema.specs.Reading.{takes_memory}
use Rattle.kind_schema.proofs.Faults.{tested-refused}
use Rattle.kind_schema.proofs.read.read_kind.Goals as goal

pub returns-in-Err-clause-refused : goal.returns-in-Err-clause-refused
returns-in-Err-clause-refused c =
    tested-refused (table_view c.args.table.now) (takes_memory (table_view c.args.table.now)) c.in-Err.fault (sym c.in-Err.is ∙ c.tested.ensures)
