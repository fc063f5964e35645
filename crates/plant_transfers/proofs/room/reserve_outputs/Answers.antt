use Rattle.std.proofs.Common.{◌≤◌, ◌∙◌, List, ap, sym, subst, map, get_or}
use Rattle.std.specs.Prelude.{OnOk}
use Rattle.std.specs.List.{All}
use Rattle.std.specs.Vec.{with_items}
use Rattle.std.proofs.lemmas.List.{with_items_is}
use Rattle.buffers.specs.Buffer.{BufferState}
use Rattle.plant_storage.specs.Stores.{buffer_of}
use Rattle.plant_storage.specs.Lending.{no_buffer}
use Rattle.plant_transfers.proofs.States.{Row}
use Rattle.plant_transfers.proofs.Rooms.{same_rows, row_set, rows_keep}
use Rattle.plant_transfers.proofs.room.reserve_outputs.Goals as goal

pub returns-clause-stored : goal.returns-clause-stored
returns-clause-stored c =
    let old : Row = get_or c.args.rows.now c.args.at c.index-rows-at.result in
    let new = c.reserve_tags.new.buffers in
    let back = with_items_is old new (c.reserve_tags.auto.buffers ∙ c.deref_mut.ensures.len) in
    same_rows (λ (row : Row). row.items) c.args.rows.now c.args.at (with_items old new) c.index-rows-at.result
    (ap (map buffer_of) back ∙ c.reserve_tags.ensures.stored ∙ ap (map buffer_of) c.deref_mut.ensures.value)

pub returns-clause-room : goal.returns-clause-room
returns-clause-room c =
    let old : Row = get_or c.args.rows.now c.args.at c.index-rows-at.result in
    let new = c.reserve_tags.new.buffers in
    let back = with_items_is old new (c.reserve_tags.auto.buffers ∙ c.deref_mut.ensures.len) in
    subst (λ (bs : List BufferState). OnOk c.reserve_tags.result (All (λ b. c.args.tags ≤ b.spare) bs))
    (sym (row_set (λ (row : Row). row.items) c.args.rows.now c.args.at (with_items old new) c.index-rows-at.result c.requires ∙ back)) c.reserve_tags.ensures.room

pub returns-clause-keeps : goal.returns-clause-keeps
returns-clause-keeps c =
    let old : Row = get_or c.args.rows.now c.args.at c.index-rows-at.result in
    let new = c.reserve_tags.new.buffers in
    let back = with_items_is old new (c.reserve_tags.auto.buffers ∙ c.deref_mut.ensures.len) in
    rows_keep (λ (row : Row). row.items) c.args.rows.now c.args.at (with_items old new) c.index-rows-at.result c.requires
    (λ p. subst (λ (bs : List BufferState). (get_or old.items p no_buffer).spare ≤ (get_or bs p no_buffer).spare) (sym back)
    (subst (λ (bs : List BufferState). (get_or bs p no_buffer).spare ≤ (get_or new p no_buffer).spare) c.deref_mut.ensures.value (c.reserve_tags.ensures.keeps p)))
