use Rattle.std.proofs.Common.{Ok, ap, sym, ◌∙◌}
use Rattle.std.proofs.lemmas.Result.{err_from_is_err_and}
use Rattle.kind_model.specs.Codes.{crc_check}
use Rattle.block_parameters.specs.declared.fault.Parameter.TheVariants.{N, Order}
use Rattle.kind_schema.specs.Kinds.{checksum_at}
use Rattle.kind_schema.specs.Ranges.{parameter}
use Rattle.kind_schema.specs.Tables.{order_at, small_at}
use Rattle.toml.specs.View.{table_view}
use Rattle.kind_schema.proofs.Checksums.{framed_unnamed, framed_good, framed_bad}
use Rattle.kind_schema.proofs.make_codes.make_crc_check.Goals as goal

pub returns-in_err-rule-clause-bad : goal.returns-in_err-rule-clause-bad
returns-in_err-rule-clause-bad c =
    let ms = table_view c.args.table.now in
    let p = err_from_is_err_and c.from_residual.result c.from_residual.ensures.1 in
    rw p.1 (framed_unnamed crc_check (order_at ms (parameter Order)) (small_at ms (parameter N)) (checksum_at ms) p.0 (p.2 ∙ c.in_err-rule.ensures.err.0) c.in_err-rule.ensures.err.1)

pub returns-in-Ok-clause-ok : goal.returns-in-Ok-clause-ok
returns-in-Ok-clause-ok c =
    let ms = table_view c.args.table.now in
    let rule = c.in_ok-rule.rule in
    framed_good crc_check (order_at ms (parameter Order)) (small_at ms (parameter N)) (checksum_at ms) rule.order c.wide.result rule c.in_ok-rule.ensures.order c.wide.ensures c.in_ok-rule.ensures.ok c.in-Ok.ensures.range
    ∙ ap Ok (sym c.in-Ok.ensures.meaning)

pub returns-in-Err-clause-bad : goal.returns-in-Err-clause-bad
returns-in-Err-clause-bad c =
    let ms = table_view c.args.table.now in
    let rule = c.in_ok-rule.rule in
    framed_bad crc_check (order_at ms (parameter Order)) (small_at ms (parameter N)) (checksum_at ms) rule.order c.wide.result rule c.in_ok-rule.ensures.order c.wide.ensures c.in_ok-rule.ensures.ok c.in-Err.fault c.in-Err.ensures.fault
