use Rattle.std.proofs.Common.{◌*◌, map, ap, ◌∙◌}
use Rattle.items.specs.Items.{numbers_of}
use Rattle.settings.specs.Values.{held_of}
use Rattle.bit_blocks.proofs.Repackings.{all_bits, repacking-given}
use Rattle.bit_blocks.proofs.repacking.RepackingSingle.fill.Goals as goal

pub append-requires-clause-lengths : goal.append-requires-clause-lengths
append-requires-clause-lengths g c =
    let b = c.args.self.now in
    ap (λ i. i * c.args.batch.now.count * b.to) b.gives ∙ all_bits b.item b.from b.to b.read b.write b.some b.some_given _ _ _ _ _ _ _ c.requires.fed

pub returns-clause-items : goal.returns-clause-items
returns-clause-items g c ts xs fed =
    let b = c.args.self.now in
    let batch = c.args.batch.now in
    c.append.ensures.numbers
    ∙ repacking-given b.item b.from b.to b.read b.write b.some b.some_given ts xs batch.first batch.count batch.state (numbers_of batch.window.now) (map held_of batch.held.now) fed _
    (ap (λ i. i * batch.count) b.gives)
