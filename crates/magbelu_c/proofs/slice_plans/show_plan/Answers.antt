use Rattle.std.proofs.Common.{rules, ◌≡◌, length, map, refl, ap, ap₂, ◌∙◌}
use Rattle.std.proofs.lemmas.List.{length-map}
use Rattle.magbelu_c.specs.CallAnswers.{shown}
use Rattle.magbelu_c.specs.Cuts.{sink_row, source_row}
use Rattle.magbelu_c.specs.Slicing.{PlanShown, PlanShownNot, told}
use Rattle.magbelu_c.specs.declared.slicing.Uncut.TheVariants.{Memory}
use Rattle.magbelu_c.proofs.Counting.{goes_on}
use Rattle.magbelu_c.proofs.slice_plans.show_plan.Goals as goal

pub returns-in-Err : goal.returns-in-Err
returns-in-Err c = PlanShownNot c.in-Err.uncut c.in-Err.ensures.not_planned refl refl c.not_cut.ensures

pub returns-in_default : goal.returns-in_default
returns-in_default c = PlanShownNot Memory tt refl refl c.not_cut-in_default.ensures

pub returns-in_default-sink_rows : goal.returns-in_default-sink_rows
returns-in_default-sink_rows c = PlanShownNot Memory tt refl refl c.not_cut-in_default-sink_rows.ensures

pub returns : goal.returns
returns c =
    let plan = c.in-Ok.planned.1 in
    let sources : c.in-Ok-source_rows.source_rows.items ≡ map source_row plan.sources.items = c.in-Ok-source_rows.ensures ∙ ap (map source_row) c.deref.ensures.value in
    let sinks : c.in-Ok-sink_rows.sink_rows.items ≡ map sink_row plan.sinks.items = c.in-Ok-sink_rows.ensures ∙ ap (map sink_row) c.deref-2.ensures.value in
    let source_count : c.len.result ≡ length c.in-Ok-source_rows.source_rows.items = search rules in
    let sink_count : c.len-2.result ≡ length c.in-Ok-sink_rows.sink_rows.items = search rules in
    let counting = c.first_to_count-counting.result in
    PlanShown c.in-Ok.planned.0.firings.items plan c.in-Ok.ensures.planned
    counting (goes_on c.args.graph.now c.args.asks c.in-Ok.planned.0.firings.items plan c.in-Ok.ensures.planned counting c.first_to_count-counting.ensures.first c.first_to_count-counting.ensures.own)
    (c.show.ensures ∙ ap (λ rows. shown rows c.args.sources.now) (c.deref-3.ensures.value ∙ sources))
    (c.show-2.ensures ∙ ap (λ rows. shown rows c.args.sinks.now) (c.deref-4.ensures.value ∙ sinks))
    (c.told.ensures
    ∙ ap₂ (told plan.overlap counting) (source_count ∙ ap length sources ∙ length-map plan.sources.items source_row) (sink_count ∙ ap length sinks ∙ length-map plan.sinks.items sink_row))
