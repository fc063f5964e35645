use Rattle.std.proofs.Common.{sym, ◌∙◌}
use Rattle.kind_schema.specs.Tables.{is_number}
use Rattle.kind_schema.proofs.Values.{each_pass, each_fail}
use Rattle.kind_schema.proofs.table.are_numbers.Goals as goal

pub loop-value-preserved : goal.loop-value-preserved
loop-value-preserved c =
    each_pass is_number c.args.values.now c.loop-value.value-index c.value-item.result c.loop-value-test.true c.value-item.is (sym c.is_integer.ensures ∙ c.if-not-is_integer.false) c.loop-value.invariant

pub returns-then-not-is_integer : goal.returns-then-not-is_integer
returns-then-not-is_integer c =
    each_fail is_number c.args.values.now c.loop-value.value-index c.value-item.result c.loop-value-test.true c.value-item.is (sym c.is_integer.ensures ∙ c.if-not-is_integer.true) c.loop-value.invariant
