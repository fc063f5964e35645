use Rattle.std.proofs.Common.{refl, map, ◌∙◌}
use Rattle.items.specs.Items.{numbers_of}
use Rattle.settings.specs.Values.{held_of}
use Rattle.rate_blocks.proofs.Periods.{length-inserted, inserted-given}
use Rattle.rate_blocks.proofs.insert.InsertSingle.fill.Goals as goal

pub make_items-requires-clause-can : goal.make_items-requires-clause-can
make_items-requires-clause-can c =
    let b = c.args.self.now in
    let batch = c.args.batch.now in
    let can = c.requires in
    rw (c.deref.ensures.value, can.item)
    (b.is, length-inserted b.item b.values.items b.period b.offset b.is can.settings can.streams batch.first batch.count batch.state (numbers_of batch.window.now) (map held_of batch.held.now) can.fed, refl)

pub returns-clause-items : goal.returns-clause-items
returns-clause-items c ts xs fed =
    let b = c.args.self.now in
    let batch = c.args.batch.now in
    c.make_items.ensures.numbers
    ∙ rw c.deref.ensures.value
    (inserted-given b.item b.values.items b.period b.offset b.is ts xs batch.first batch.count batch.state (numbers_of batch.window.now) (map held_of batch.held.now) fed)
