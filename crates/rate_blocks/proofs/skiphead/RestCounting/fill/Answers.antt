use Rattle.std.proofs.Common.{◌∙◌, ◌++◌, map, slice_range, arith}
use Rattle.items.specs.Items.{numbers_of}
use Rattle.settings.specs.Values.{held_of}
use Rattle.rate_blocks.proofs.Moved.{skip-given}
use Rattle.rate_blocks.proofs.skiphead.RestCounting.fill.Goals as goal

pub returns-clause-items : goal.returns-clause-items
returns-clause-items c ts xs fed =
    let batch = c.args.batch.now in
    let w = numbers_of batch.window.now in
    c.push_range.ensures.numbers
    ∙ (λ i. c.requires.can.ready.empty i ++ slice_range w c.min.result (c.len-2.ensures.value i))
    ∙ skip-given c.args._item c.args.n ts xs batch.first batch.count batch.state w (map held_of batch.held.now) c.min.result fed
    (λ h. omega (arith, c.min.ensures, c.saturating_sub-skipped.ensures, c.len.ensures.value), λ h. omega (arith, c.min.ensures, c.saturating_sub-skipped.ensures, c.len.ensures.value))
    (omega (arith, c.min.ensures, c.len.ensures.value))
