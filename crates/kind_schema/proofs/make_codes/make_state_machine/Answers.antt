use Rattle.std.proofs.Common.{◌≡◌, true, Ok, ap, sym, ◌∙◌, subst}
use Rattle.kind_model.specs.Codes.{state_machine}
use Rattle.block_parameters.specs.declared.fault.Parameter.TheVariants.{Symbols, Next, Output, Init}
use Rattle.rate_blocks.specs.Lengths.{unsigned}
use Rattle.kind_schema.specs.Ranges.{parameter}
use Rattle.kind_schema.specs.Reading.{IsBad}
use Rattle.kind_schema.specs.Tables.{numbers_at, small_at}
use Rattle.toml.specs.View.{table_view}
use Rattle.kind_schema.proofs.Machines.{machined, machine_good, machine_bad, cut_machine, given}
use Rattle.kind_schema.proofs.make_codes.make_state_machine.Goals as goal

pub returns-in-Ok : goal.returns-in-Ok
returns-in-Ok c =
    let ms = table_view c.args.table.now in
    record {
      ok = sym (cut_machine (small_at ms (parameter Symbols)) (numbers_at ms (parameter Next)) (numbers_at ms (parameter Output)) (small_at ms (parameter Init)))
          ∙ given (λ n zs ys s. machined n zs ys s ≡ Ok (state_machine c.small-symbols.result (unsigned c.deref.result.now) c.deref-2.result.now c.small-start.result))
          c.small-symbols.ensures (c.deref.ensures.0 ∙ c.long_numbers-next.ensures) (c.deref-2.ensures.0 ∙ c.long_numbers-output.ensures) c.small-start.ensures
          (machine_good c.small-symbols.result c.deref.result.now c.deref-2.result.now c.small-start.result c.in-Ok.ensures.range) ∙ ap Ok (sym c.in-Ok.ensures.meaning);
      bad = tt;
    }

pub returns-in-Err-clause-bad : goal.returns-in-Err-clause-bad
returns-in-Err-clause-bad c =
    let ms = table_view c.args.table.now in
    subst (λ r. IsBad true r c.in-Err.fault) (cut_machine (small_at ms (parameter Symbols)) (numbers_at ms (parameter Next)) (numbers_at ms (parameter Output)) (small_at ms (parameter Init)))
    (given (λ n zs ys s. IsBad true (machined n zs ys s) c.in-Err.fault)
    c.small-symbols.ensures (c.deref.ensures.0 ∙ c.long_numbers-next.ensures) (c.deref-2.ensures.0 ∙ c.long_numbers-output.ensures) c.small-start.ensures
    (machine_bad c.small-symbols.result c.deref.result.now c.deref-2.result.now c.small-start.result c.in-Err.fault c.in-Err.ensures.fault))
