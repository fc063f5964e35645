use Rattle.std.proofs.Common.{◌≡◌, true, Ok, ap, sym, ◌∙◌, subst}
use Rattle.kind_model.specs.Trellis.{viterbi}
use Rattle.block_parameters.specs.declared.fault.Parameter.TheVariants.{Symbols, Next, Outputs, Output, Steps, Start, End}
use Rattle.rate_blocks.specs.Lengths.{unsigned}
use Rattle.viterbi_decoder.specs.Found.{trellis}
use Rattle.kind_schema.specs.Ranges.{parameter}
use Rattle.kind_schema.specs.Reading.{IsBad}
use Rattle.kind_schema.specs.Tables.{numbers_at, small_at, known_at}
use Rattle.toml.specs.View.{table_view}
use Rattle.kind_schema.proofs.Trellises.{decoded_by, trellis_good, trellis_bad, cut_trellis, described}
use Rattle.kind_schema.proofs.make_codes.make_viterbi.Goals as goal

pub returns-in-Ok : goal.returns-in-Ok
returns-in-Ok c =
    let ms = table_view c.args.table.now in
    record {
      ok = sym (cut_trellis c.args.item (small_at ms (parameter Symbols)) (numbers_at ms (parameter Next)) (small_at ms (parameter Outputs)) (numbers_at ms (parameter Output))
          (small_at ms (parameter Steps)) (known_at ms (parameter Start)) (known_at ms (parameter End)))
          ∙ described (λ n zs os ys k b l. decoded_by c.args.item n zs os ys k b l ≡ Ok (viterbi c.args.item (trellis c.small.result (unsigned c.deref.result.now) (unsigned c.deref-2.result.now) c.small-2.result c.small-3.result c.known.result c.known-2.result)))
          c.small.ensures (c.deref.ensures.0 ∙ c.long_numbers-next.ensures) c.small-2.ensures (c.deref-2.ensures.0 ∙ c.long_numbers-output.ensures)
          c.small-3.ensures c.known.ensures c.known-2.ensures
          (trellis_good c.args.item _ c.in-Ok.ensures.range) ∙ ap Ok (sym c.in-Ok.ensures.meaning);
      bad = tt;
    }

pub returns-in-Err-clause-bad : goal.returns-in-Err-clause-bad
returns-in-Err-clause-bad c =
    let ms = table_view c.args.table.now in
    subst (λ r. IsBad true r c.in-Err.fault)
    (cut_trellis c.args.item (small_at ms (parameter Symbols)) (numbers_at ms (parameter Next)) (small_at ms (parameter Outputs)) (numbers_at ms (parameter Output))
    (small_at ms (parameter Steps)) (known_at ms (parameter Start)) (known_at ms (parameter End)))
    (described (λ n zs os ys k b l. IsBad true (decoded_by c.args.item n zs os ys k b l) c.in-Err.fault)
    c.small.ensures (c.deref.ensures.0 ∙ c.long_numbers-next.ensures) c.small-2.ensures (c.deref-2.ensures.0 ∙ c.long_numbers-output.ensures)
    c.small-3.ensures c.known.ensures c.known-2.ensures
    (trellis_bad c.args.item _ c.in-Err.fault c.in-Err.ensures.fault))
