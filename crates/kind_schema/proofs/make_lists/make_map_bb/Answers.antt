use Rattle.std.proofs.Common.{◌≡◌, true, Ok, Err, ap, sym, ◌∙◌, subst}
use Rattle.kind_model.specs.Math.{map_bb}
use Rattle.block_parameters.specs.declared.fault.Parameter.TheVariants.{Map}
use Rattle.kind_schema.specs.Ranges.{are_bytes, parameter}
use Rattle.kind_schema.specs.Kinds.{needs}
use Rattle.kind_schema.specs.Reading.{IsBad}
use Rattle.kind_schema.specs.Tables.{numbers_at}
use Rattle.toml.specs.View.{table_view}
use Rattle.kind_schema.proofs.Makers.{table_good, table_bad, cut_table}
use Rattle.kind_schema.proofs.make_lists.make_map_bb.Goals as goal

pub returns-in-Ok : goal.returns-in-Ok
returns-in-Ok c =
    record {
      ok = sym (cut_table map_bb (numbers_at (table_view c.args.table.now) (parameter Map)))
          ∙ subst (λ zs. needs (are_bytes zs) Map (Ok (map_bb zs)) ≡ Ok (map_bb c.deref.result.now)) (c.deref.ensures.0 ∙ c.numbers-map.ensures) (table_good c.deref.result.now (map_bb c.deref.result.now) c.in-Ok.ensures.range) ∙ ap Ok (sym c.in-Ok.ensures.meaning);
      bad = tt;
    }

pub returns-in-Err-clause-bad : goal.returns-in-Err-clause-bad
returns-in-Err-clause-bad c =
    subst (λ r. IsBad true r c.in-Err.fault) (cut_table map_bb (numbers_at (table_view c.args.table.now) (parameter Map)))
    (subst (λ zs. IsBad true (needs (are_bytes zs) Map (Ok (map_bb zs))) c.in-Err.fault) (c.deref.ensures.0 ∙ c.numbers-map.ensures)
    (table_bad c.deref.result.now (map_bb c.deref.result.now) c.in-Err.fault (λ e are. c.in-Err.ensures.bad.0 (ap Err e) are) (λ e. c.in-Err.ensures.memory (ap Err e)) c.in-Err.ensures.err))
