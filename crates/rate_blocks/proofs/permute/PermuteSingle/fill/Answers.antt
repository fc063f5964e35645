use Rattle.std.proofs.Common.{refl, map, ◌∙◌}
use Rattle.items.specs.Items.{numbers_of}
use Rattle.settings.specs.Values.{held_of}
use Rattle.rate_blocks.proofs.Reordered.{length-permuted, permuted-given}
use Rattle.rate_blocks.proofs.permute.PermuteSingle.fill.Goals as goal

pub make_items-requires-clause-can : goal.make_items-requires-clause-can
make_items-requires-clause-can c =
    let b = c.args.self.now in
    let batch = c.args.batch.now in
    let can = c.requires in
    rw c.as_slice-order.ensures.value
    (b.is, length-permuted b.item b.order.items b.is can.settings can.streams batch.first batch.count batch.state (numbers_of batch.window.now) (map held_of batch.held.now) can.fed, refl)

pub returns-clause-items : goal.returns-clause-items
returns-clause-items c ts xs fed =
    let b = c.args.self.now in
    let batch = c.args.batch.now in
    c.make_items.ensures.numbers
    ∙ rw c.as_slice-order.ensures.value
    (permuted-given b.item b.order.items b.is ts xs batch.first batch.count batch.state (numbers_of batch.window.now) (map held_of batch.held.now) fed)
