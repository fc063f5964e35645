use Rattle.std.proofs.Common.{◌≡◌, true, Ok, Err, ap, sym, ◌∙◌, subst}
use Rattle.kind_model.specs.Rates.{permute}
use Rattle.block_parameters.specs.declared.fault.Parameter.TheVariants.{Places}
use Rattle.rate_blocks.specs.Lengths.{unsigned}
use Rattle.kind_schema.specs.Ranges.{are_places, parameter}
use Rattle.kind_schema.specs.Kinds.{needs}
use Rattle.kind_schema.specs.Reading.{IsBad}
use Rattle.kind_schema.specs.Tables.{numbers_at}
use Rattle.toml.specs.View.{table_view}
use Rattle.kind_schema.proofs.Makers.{goes}
use Rattle.kind_schema.proofs.Lists.{places-decides, places_bad, cut_places}
use Rattle.kind_schema.proofs.make_lists.make_permute.Goals as goal

pub returns-in-Ok : goal.returns-in-Ok
returns-in-Ok c =
    record {
      ok = sym (cut_places Places (λ zs. Ok (permute c.args.item (unsigned zs))) (numbers_at (table_view c.args.table.now) (parameter Places)))
          ∙ subst (λ zs. needs (are_places zs) Places (Ok (permute c.args.item (unsigned zs))) ≡ Ok (permute c.args.item (unsigned c.deref.result.now))) (c.deref.ensures.0 ∙ c.numbers-places.ensures)
          (goes (are_places c.deref.result.now) Places _ (places-decides c.deref.result.now) c.in-Ok.ensures.range) ∙ ap Ok (sym c.in-Ok.ensures.meaning);
      bad = tt;
    }

pub returns-in-Err-clause-bad : goal.returns-in-Err-clause-bad
returns-in-Err-clause-bad c =
    subst (λ r. IsBad true r c.in-Err.fault) (cut_places Places (λ zs. Ok (permute c.args.item (unsigned zs))) (numbers_at (table_view c.args.table.now) (parameter Places)))
    (subst (λ zs. IsBad true (needs (are_places zs) Places (Ok (permute c.args.item (unsigned zs)))) c.in-Err.fault) (c.deref.ensures.0 ∙ c.numbers-places.ensures)
    (places_bad c.deref.result.now Places (permute c.args.item (unsigned c.deref.result.now)) c.in-Err.fault (λ e are. c.in-Err.ensures.bad.0 (ap Err e) are) (λ e. c.in-Err.ensures.memory (ap Err e)) c.in-Err.ensures.err))
