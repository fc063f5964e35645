use Rattle.std.proofs.Common.{sym, ◌∙◌}
use Rattle.kind_schema.specs.Tables.{is_table}
use Rattle.kind_schema.proofs.Values.{each_pass, each_fail}
use Rattle.kind_schema.proofs.table.are_tables.Goals as goal

pub loop-value-preserved : goal.loop-value-preserved
loop-value-preserved c =
    each_pass is_table c.args.values.now c.loop-value.value-index c.value-item.result c.loop-value-test.true c.value-item.is (sym c.is_table.ensures ∙ c.if-not-is_table.false) c.loop-value.invariant

pub returns-then-not-is_table : goal.returns-then-not-is_table
returns-then-not-is_table c =
    each_fail is_table c.args.values.now c.loop-value.value-index c.value-item.result c.loop-value-test.true c.value-item.is (sym c.is_table.ensures ∙ c.if-not-is_table.true) c.loop-value.invariant
