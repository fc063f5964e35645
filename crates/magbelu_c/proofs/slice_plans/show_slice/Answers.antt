use Rattle.std.proofs.Common.{rules, ◌≡◌, length, map, refl, ap, ◌∙◌}
use Rattle.std.proofs.lemmas.List.{length-map}
use Rattle.magbelu_c.specs.CallAnswers.{shown}
use Rattle.magbelu_c.specs.Cuts.{part_row}
use Rattle.magbelu_c.specs.Slicing.{BegunNot, CanBegin, CannotBegin, SliceShown, SliceShownNot, told}
use Rattle.magbelu_c.specs.declared.slicing.Uncut.TheVariants.{Memory}
use Rattle.magbelu_c.proofs.Counting.{goes_on}
use Rattle.magbelu_c.proofs.slice_plans.show_slice.Goals as goal

pub returns-in-Err : goal.returns-in-Err
returns-in-Err c = SliceShownNot c.in-Err.uncut c.in-Err.ensures.not_planned refl c.not_cut.ensures

pub returns-then-not-can_begin : goal.returns-then-not-can_begin
returns-then-not-can_begin c =
    let cannot : CannotBegin c.in-Ok.planned.1 c.args.begins = search rules in
    BegunNot c.in-Ok.planned.0.firings.items c.in-Ok.planned.1 c.in-Ok.ensures.planned cannot refl c.not_cut-then-not-can_begin.ensures

pub returns-in_default : goal.returns-in_default
returns-in_default c = SliceShownNot Memory tt refl c.not_cut-in_default.ensures

pub returns-in_default-part_rows : goal.returns-in_default-part_rows
returns-in_default-part_rows c = SliceShownNot Memory tt refl c.not_cut-in_default-part_rows.ensures

pub returns : goal.returns
returns c =
    let plan = c.in-Ok.planned.1 in
    let slice = c.in-Ok-slice_at.slice in
    let can : CanBegin plan c.args.begins = search rules in
    let rows : c.in-Ok-part_rows.rows.items ≡ map part_row slice.parts.items = c.in-Ok-part_rows.ensures ∙ ap (map part_row) c.deref.ensures.value in
    let count : c.len.result ≡ length c.in-Ok-part_rows.rows.items = search rules in
    let counting = c.first_to_count.result in
    SliceShown c.in-Ok.planned.0.firings.items plan c.in-Ok.ensures.planned can slice c.in-Ok-slice_at.ensures
    counting (goes_on c.args.graph.now c.args.asks c.in-Ok.planned.0.firings.items plan c.in-Ok.ensures.planned counting c.first_to_count.ensures.first c.first_to_count.ensures.own)
    (c.show.ensures ∙ ap (λ rs. shown rs c.args.parts.now) (c.deref-2.ensures.value ∙ rows))
    (c.told.ensures ∙ ap (told slice.from counting 0) (count ∙ ap length rows ∙ length-map slice.parts.items part_row))
