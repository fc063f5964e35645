use Rattle.std.proofs.Common.{◌+◌, ◌%◌, pos, map, arith, ap, ◌∙◌}
use Rattle.stream_model.specs.Numbers.{wrap}
use Rattle.kind_model.specs.Rates.{counter}
use Rattle.items.specs.Items.{numbers_of}
use Rattle.settings.specs.Values.{held_of}
use Rattle.block_trait.proofs.Fills.{paced, given-paced}
use Rattle.rate_blocks.proofs.counter.CountsCounting.fill.Goals as goal

pub returns-clause-items : goal.returns-clause-items
returns-clause-items c ts xs fed =
    let batch = c.args.batch.now in
    let t = c.args._item in
    let n = c.args.n in
    c.make_items.ensures.numbers
    ∙ rw c.requires.can.item
    (given-paced (counter t n) 1 1 (paced _ _ 1 1 1 _ _ 0 _ (counter t n).out (omega arith)) ts xs batch.first batch.count batch.state
    (numbers_of batch.window.now) (map held_of batch.held.now) fed 0 batch.count (λ k. wrap t (pos ((batch.first + k) % n))) (omega arith)
    (λ k h. ap (λ a. wrap t (pos ((a + k) % n))) (omega arith)))
