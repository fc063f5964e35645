use Rattle.std.proofs.Common.{◌≡◌, true, Ok, Err, ap, sym, ◌∙◌, subst}
use Rattle.kind_model.specs.Rates.{pattern}
use Rattle.block_parameters.specs.declared.fault.Parameter.TheVariants.{Values}
use Rattle.kind_schema.specs.Ranges.{parameter}
use Rattle.kind_schema.specs.Reading.{IsBad}
use Rattle.kind_schema.specs.Tables.{numbers_at}
use Rattle.toml.specs.View.{table_view}
use Rattle.kind_schema.proofs.Lists.{patterned, pattern_good, pattern_bad, cut_pattern}
use Rattle.kind_schema.proofs.make_lists.make_pattern.Goals as goal

pub returns-in-Ok : goal.returns-in-Ok
returns-in-Ok c =
    let t = c.args.item in
    record {
      ok = sym (cut_pattern t (numbers_at (table_view c.args.table.now) (parameter Values)))
          ∙ subst (λ zs. patterned t zs ≡ Ok (pattern t c.deref.result.now)) (c.deref.ensures.0 ∙ c.numbers-values.ensures)
          (pattern_good t c.deref.result.now c.in-Ok.ensures.range) ∙ ap Ok (sym c.in-Ok.ensures.meaning);
      bad = tt;
    }

pub returns-in-Err-clause-bad : goal.returns-in-Err-clause-bad
returns-in-Err-clause-bad c =
    let t = c.args.item in
    subst (λ r. IsBad true r c.in-Err.fault) (cut_pattern t (numbers_at (table_view c.args.table.now) (parameter Values)))
    (subst (λ zs. IsBad true (patterned t zs) c.in-Err.fault) (c.deref.ensures.0 ∙ c.numbers-values.ensures)
    (pattern_bad t c.deref.result.now c.in-Err.fault (λ e are. c.in-Err.ensures.bad.0 (ap Err e) are) (λ e. c.in-Err.ensures.memory (ap Err e)) c.in-Err.ensures.err))
