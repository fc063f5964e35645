use Rattle.std.proofs.Common.{◌∙◌, ◌-◌, ◌++◌, map, pos, replicate, arith}
use Rattle.items.specs.Items.{numbers_of}
use Rattle.settings.specs.Values.{held_of}
use Rattle.rate_blocks.proofs.Moved.{delay-given, delay-length}
use Rattle.rate_blocks.proofs.delay.LateCounting.fill.Goals as goal

pub returns-clause-items : goal.returns-clause-items
returns-clause-items c ts xs fed =
    let batch = c.args.batch.now in
    let w = numbers_of batch.window.now in
    let z = batch.count - c.len.result in
    c.push_slice.ensures.numbers
    ∙ (λ i. c.push_zeros.ensures.numbers i ++ w)
    ∙ (λ i. (c.requires.can.ready.empty i ++ replicate z (pos 0)) ++ w)
    ∙ delay-given c.args._item c.args._n ts xs batch.first batch.count batch.state w (map held_of batch.held.now) z fed
    (omega (arith, c.len.ensures.value, delay-length c.args._item c.args._n ts xs batch.first batch.count batch.state w (map held_of batch.held.now) fed))
