use Rattle.std.proofs.Common.{◌∙◌, map}
use Rattle.items.specs.Items.{numbers_of}
use Rattle.settings.specs.Values.{held_of}
use Rattle.math_blocks.proofs.Numbered.{are_over, set_between, numbered-given}
use Rattle.math_blocks.proofs.stretch.fill_each.Goals as goal

pub run_items-requires-clause-over : goal.run_items-requires-clause-over
run_items-requires-clause-over g c =
    let b = c.args.block.now in
    let batch = c.args.batch.now in
    are_over (g.B.EachItem.takes b) (g.B.EachItem.low b) (g.B.EachItem.high b) (g.B.EachItem.own b) (g.B.EachItem.gives b) c.requires.settings c.requires.streams
    batch.first batch.count batch.state (numbers_of batch.window.now) (map held_of batch.held.now) c.requires.fed

pub run_items-requires-clause-in_range : goal.run_items-requires-clause-in_range
run_items-requires-clause-in_range g c =
    let b = c.args.block.now in
    let batch = c.args.batch.now in
    set_between (g.B.EachItem.takes b) (g.B.EachItem.low b) (g.B.EachItem.high b) (g.B.EachItem.own b) (g.B.EachItem.gives b) c.requires.settings c.requires.streams
    batch.first batch.count batch.state (numbers_of batch.window.now) (map held_of batch.held.now) c.requires.fed (g.met.B.EachItem.in_range b) c.requires.wanted

pub returns-clause-items : goal.returns-clause-items
returns-clause-items g c ts xs fed =
    let b = c.args.block.now in
    let batch = c.args.batch.now in
    c.run_items.ensures.numbers
    ∙ numbered-given (g.B.EachItem.takes b) (g.B.EachItem.low b) (g.B.EachItem.high b) (g.B.EachItem.own b) (g.B.EachItem.gives b) ts xs
    batch.first batch.count batch.state (numbers_of batch.window.now) (map held_of batch.held.now) fed
