use Rattle.std.proofs.Common.{◌≡◌, false, refl, Ok, ap, sym, ◌∙◌, subst}
use Rattle.kind_model.specs.Rates.{stream_mux}
use Rattle.block_parameters.specs.declared.fault.Parameter.TheVariants.{Lengths}
use Rattle.rate_blocks.specs.Lengths.{unsigned}
use Rattle.kind_schema.specs.Ranges.{are_lengths, parameter}
use Rattle.kind_schema.specs.Kinds.{needs}
use Rattle.kind_schema.specs.Reading.{IsBad}
use Rattle.kind_schema.specs.Tables.{numbers_at}
use Rattle.toml.specs.View.{table_view}
use Rattle.std.proofs.lemmas.Bool.{false≢true}
use Rattle.kind_schema.proofs.Makers.{lengths_good, lengths_bad, cut_lengths}
use Rattle.kind_schema.proofs.make_lists.make_stream_mux.Goals as goal

pub returns-in-Ok : goal.returns-in-Ok
returns-in-Ok c =
    record {
      ok = sym (cut_lengths (λ zs. stream_mux c.args.item (unsigned zs)) (numbers_at (table_view c.args.table.now) (parameter Lengths))) ∙ subst (λ zs. needs (are_lengths zs) Lengths (Ok (stream_mux c.args.item (unsigned zs))) ≡ Ok (stream_mux c.args.item (unsigned c.deref.result.now))) (c.deref.ensures.0 ∙ c.numbers-lengths.ensures)
          (lengths_good c.deref.result.now (stream_mux c.args.item (unsigned c.deref.result.now)) (c.in-Ok.ensures.range.0 refl)) ∙ ap Ok (sym c.in-Ok.ensures.meaning);
      bad = tt;
    }

pub returns-in-Err-clause-bad : goal.returns-in-Err-clause-bad
returns-in-Err-clause-bad c =
    subst (λ r. IsBad false r c.in-Err.fault) (cut_lengths (λ zs. stream_mux c.args.item (unsigned zs)) (numbers_at (table_view c.args.table.now) (parameter Lengths)))
    (subst (λ zs. IsBad false (needs (are_lengths zs) Lengths (Ok (stream_mux c.args.item (unsigned zs)))) c.in-Err.fault) (c.deref.ensures.0 ∙ c.numbers-lengths.ensures)
    (lengths_bad c.deref.result.now (stream_mux c.args.item (unsigned c.deref.result.now)) c.in-Err.fault (λ are. false≢true (c.in-Err.ensures.range.1 are)) c.in-Err.ensures.err))
