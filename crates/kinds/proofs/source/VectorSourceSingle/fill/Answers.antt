use Rattle.std.proofs.Common.{◌∙◌, ◌++◌, map}
use Rattle.items.specs.Items.{numbers_of}
use Rattle.settings.specs.Values.{held_of}
use Rattle.kinds.proofs.Taped.{tape-given}
use Rattle.kinds.proofs.source.VectorSourceSingle.fill.Goals as goal

pub returns-clause-items : goal.returns-clause-items
returns-clause-items c ts xs fed =
    let batch = c.args.batch.now in
    c.push_slice.ensures.numbers
    ∙ (λ i. c.requires.ready.empty i ++ numbers_of batch.window.now)
    ∙ tape-given c.args.self.now.item ts xs batch.first batch.count batch.state (numbers_of batch.window.now) (map held_of batch.held.now) fed
