use Rattle.std.proofs.Common.{◌∙◌, map}
use Rattle.items.specs.Items.{numbers_of}
use Rattle.settings.specs.Values.{held_of}
use Rattle.rate_blocks.proofs.Paced.{repeat-given}
use Rattle.rate_blocks.proofs.repeat.CopiesCounting.fill.Goals as goal

pub returns-clause-items : goal.returns-clause-items
returns-clause-items c ts xs fed =
    let batch = c.args.batch.now in
    c.append_items.ensures.numbers
    ∙ repeat-given c.args._item c.args.n ts xs batch.first batch.count batch.state (numbers_of batch.window.now) (map held_of batch.held.now) c.requires.least fed
