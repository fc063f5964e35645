use Rattle.std.proofs.Common.{◌+◌, ◌%◌, map, length, arith, ap, ◌∙◌}
use Rattle.stream_model.specs.Lists.{item}
use Rattle.kind_model.specs.Rates.{pattern}
use Rattle.items.specs.Items.{numbers_of}
use Rattle.settings.specs.Values.{held_of}
use Rattle.block_trait.proofs.Fills.{paced, given-paced}
use Rattle.rate_blocks.proofs.pattern.PatternSingle.fill.Goals as goal

pub make_items-requires-clause-can : goal.make_items-requires-clause-can
make_items-requires-clause-can c = rw (c.deref.ensures.value, c.requires.item) c.args.self.now.are

pub returns-clause-items : goal.returns-clause-items
returns-clause-items c ts xs fed =
    let b = c.args.self.now in
    let batch = c.args.batch.now in
    let m = pattern b.item b.values.items in
    c.make_items.ensures.numbers
    ∙ rw c.deref.ensures.value
    (given-paced m 1 1 (paced _ _ 1 1 1 _ _ 0 _ m.out (omega arith)) ts xs batch.first batch.count batch.state
    (numbers_of batch.window.now) (map held_of batch.held.now) fed 0 batch.count (λ k. item b.values.items ((batch.first + k) % length b.values.items)) (omega arith)
    (λ k h. ap (λ a. item b.values.items ((a + k) % length b.values.items)) (omega arith)))
