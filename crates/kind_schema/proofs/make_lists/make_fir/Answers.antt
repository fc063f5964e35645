use Rattle.std.proofs.Common.{◌≡◌, true, Ok, ap, sym, ◌∙◌, subst}
use Rattle.kind_model.specs.Filters.{fir}
use Rattle.block_parameters.specs.declared.fault.Parameter.TheVariants.{Decimation, Shift, Taps}
use Rattle.kind_schema.specs.Ranges.{parameter}
use Rattle.kind_schema.specs.Reading.{IsBad}
use Rattle.kind_schema.specs.Tables.{numbers_at, small_at}
use Rattle.toml.specs.View.{table_view}
use Rattle.kind_schema.proofs.Makers.{filtered, filter_good, filter_bad, given, cut_filter}
use Rattle.kind_schema.proofs.make_lists.make_fir.Goals as goal

pub returns-in-Ok : goal.returns-in-Ok
returns-in-Ok c =
    record {
      ok = sym (cut_filter fir Decimation c.args.item (numbers_at (table_view c.args.table.now) (parameter Taps)) (small_at (table_view c.args.table.now) (parameter Decimation)) (small_at (table_view c.args.table.now) (parameter Shift)))
          ∙ given (λ ts n s. filtered fir Decimation c.args.item ts n s ≡ Ok (fir c.args.item c.deref.result.now c.wide.result c.small.result)) (c.deref.ensures.0 ∙ c.numbers-taps.ensures) c.wide.ensures c.small.ensures
          (filter_good fir Decimation c.args.item c.deref.result.now c.wide.result c.small.result c.in-Ok.ensures.range) ∙ ap Ok (sym c.in-Ok.ensures.meaning);
      bad = tt;
    }

pub returns-in-Err-clause-bad : goal.returns-in-Err-clause-bad
returns-in-Err-clause-bad c =
    subst (λ r. IsBad true r c.in-Err.fault) (cut_filter fir Decimation c.args.item (numbers_at (table_view c.args.table.now) (parameter Taps)) (small_at (table_view c.args.table.now) (parameter Decimation)) (small_at (table_view c.args.table.now) (parameter Shift)))
    (given (λ ts n s. IsBad true (filtered fir Decimation c.args.item ts n s) c.in-Err.fault) (c.deref.ensures.0 ∙ c.numbers-taps.ensures) c.wide.ensures c.small.ensures
    (filter_bad fir Decimation c.args.item c.deref.result.now c.wide.result c.small.result c.in-Err.fault c.in-Err.ensures.fault))
