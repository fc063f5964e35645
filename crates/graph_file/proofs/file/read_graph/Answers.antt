use Rattle.std.proofs.Common.{sym, subst}
use Rattle.toml.specs.Errors.{IsBlank}
use Rattle.graph_file.proofs.BlankTexts.{blank_takes}
use Rattle.graph_file.proofs.file.read_graph.Goals as goal

pub returns-in-Ok-table_from_str-clause-memory : goal.returns-in-Ok-table_from_str-clause-memory
returns-in-Ok-table_from_str-clause-memory c = λ m blank.
    blank_takes c.in-Ok.text.now _ (subst IsBlank (sym c.in-Ok.ensures.cases.0) blank) c.in-Ok-table_from_str.ensures.ok (c.file_of.ensures.memory m)
