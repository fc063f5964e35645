use Rattle.std.proofs.Common.{◌≡◌, true, Ok, ap, sym, ◌∙◌, subst}
use Rattle.kind_model.specs.Rates.{insert}
use Rattle.block_parameters.specs.declared.fault.Parameter.TheVariants.{Offset, Period, Values}
use Rattle.kind_schema.specs.Ranges.{parameter}
use Rattle.kind_schema.specs.Reading.{IsBad}
use Rattle.kind_schema.specs.Tables.{numbers_at, small_at}
use Rattle.toml.specs.View.{table_view}
use Rattle.kind_schema.proofs.Makers.{given}
use Rattle.kind_schema.proofs.Lists.{inserted, insert_good, insert_bad, cut_insert}
use Rattle.kind_schema.proofs.make_lists.make_insert.Goals as goal

pub returns-in-Ok : goal.returns-in-Ok
returns-in-Ok c =
    record {
      ok = sym (cut_insert c.args.item (numbers_at (table_view c.args.table.now) (parameter Values)) (small_at (table_view c.args.table.now) (parameter Period)) (small_at (table_view c.args.table.now) (parameter Offset)))
          ∙ given (λ ts n s. inserted c.args.item ts n s ≡ Ok (insert c.args.item c.deref.result.now c.wide-period.result c.wide-offset.result)) (c.deref.ensures.0 ∙ c.numbers-values.ensures) c.wide-period.ensures c.wide-offset.ensures
          (insert_good c.args.item c.deref.result.now c.wide-period.result c.wide-offset.result c.in-Ok.ensures.range) ∙ ap Ok (sym c.in-Ok.ensures.meaning);
      bad = tt;
    }

pub returns-in-Err-clause-bad : goal.returns-in-Err-clause-bad
returns-in-Err-clause-bad c =
    subst (λ r. IsBad true r c.in-Err.fault) (cut_insert c.args.item (numbers_at (table_view c.args.table.now) (parameter Values)) (small_at (table_view c.args.table.now) (parameter Period)) (small_at (table_view c.args.table.now) (parameter Offset)))
    (given (λ ts n s. IsBad true (inserted c.args.item ts n s) c.in-Err.fault) (c.deref.ensures.0 ∙ c.numbers-values.ensures) c.wide-period.ensures c.wide-offset.ensures
    (insert_bad c.args.item c.deref.result.now c.wide-period.result c.wide-offset.result c.in-Err.fault c.in-Err.ensures.fault))
