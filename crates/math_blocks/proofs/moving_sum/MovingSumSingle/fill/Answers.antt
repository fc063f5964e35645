use Rattle.std.proofs.Common.{◌∙◌, map}
use Rattle.items.specs.Items.{numbers_of}
use Rattle.settings.specs.Values.{held_of}
use Rattle.math_blocks.proofs.Summed.{moving-given}
use Rattle.math_blocks.proofs.moving_sum.MovingSumSingle.fill.Goals as goal

pub returns-clause-items : goal.returns-clause-items
returns-clause-items c ts xs fed =
    let batch = c.args.batch.now in
    let b = c.args.self.now in
    c.make_items.ensures.numbers
    ∙ rw c.requires.item (moving-given b.item b.length b.some ts xs batch.first batch.count batch.state (numbers_of batch.window.now) (map held_of batch.held.now) fed)
