use Rattle.std.proofs.Common.{◌≡◌, true, Ok, Err, ap, sym, ◌∙◌, subst}
use Rattle.std.proofs.lemmas.Result.{err_from_is_err_and}
use Rattle.kind_model.specs.Math.{table}
use Rattle.block_parameters.specs.declared.fault.Parameter.TheVariants.{To, Values}
use Rattle.kind_schema.specs.Ranges.{parameter}
use Rattle.kind_schema.specs.Reading.{IsBad}
use Rattle.kind_schema.specs.Tables.{numbers_at, type_at}
use Rattle.toml.specs.View.{table_view}
use Rattle.kind_schema.proofs.Lists.{tabled, tabled_unnamed, tabled_good, tabled_bad, cut_tabled}
use Rattle.kind_schema.proofs.make_lists.make_table.Goals as goal

pub returns-in_err-to-clause-bad : goal.returns-in_err-to-clause-bad
returns-in_err-to-clause-bad c =
    let p = err_from_is_err_and c.from_residual.result c.from_residual.ensures.1 in
    rw p.1 (tabled_unnamed (type_at (table_view c.args.table.now) (parameter To)) (numbers_at (table_view c.args.table.now) (parameter Values)) p.0 (p.2 ∙ c.in_err-to.ensures.err.0) c.in_err-to.ensures.err.1)

pub returns-in-Ok : goal.returns-in-Ok
returns-in-Ok c =
    let named = type_at (table_view c.args.table.now) (parameter To) in
    record {
      ok = sym (cut_tabled named (numbers_at (table_view c.args.table.now) (parameter Values)))
          ∙ subst (λ zs. tabled named zs ≡ Ok (table c.in_ok-to.to c.deref.result.now)) (c.deref.ensures.0 ∙ c.numbers-values.ensures)
          (tabled_good named c.in_ok-to.to c.deref.result.now c.in_ok-to.ensures.ok c.in-Ok.ensures.range) ∙ ap Ok (sym c.in-Ok.ensures.meaning);
      bad = tt;
    }

pub returns-in-Err-clause-bad : goal.returns-in-Err-clause-bad
returns-in-Err-clause-bad c =
    let named = type_at (table_view c.args.table.now) (parameter To) in
    subst (λ r. IsBad true r c.in-Err.fault) (cut_tabled named (numbers_at (table_view c.args.table.now) (parameter Values)))
    (subst (λ zs. IsBad true (tabled named zs) c.in-Err.fault) (c.deref.ensures.0 ∙ c.numbers-values.ensures)
    (tabled_bad named c.in_ok-to.to c.deref.result.now c.in_ok-to.ensures.ok c.in-Err.fault (λ e are. c.in-Err.ensures.bad.0 (ap Err e) are) (λ e. c.in-Err.ensures.memory (ap Err e)) c.in-Err.ensures.err))
