use Rattle.std.proofs.Common.{◌+◌, ◌*◌, ◌/◌, map, ap, ◌∙◌}
use Rattle.items.specs.Items.{numbers_of}
use Rattle.settings.specs.Values.{held_of}
use Rattle.stream_model.specs.Lists.{listed}
use Rattle.stream_model.specs.Meaning.{Meaning}
use Rattle.fir_blocks.specs.Polyphase.{phased, taps_among}
use Rattle.fir_blocks.proofs.Filtered.{are_over, filtered-given}
use Rattle.fir_blocks.proofs.filter.FilterSingle.fill.Goals as goal

pub filter_items-requires-clause-over : goal.filter_items-requires-clause-over
filter_items-requires-clause-over g c = are_over c.polyphase.ensures c.requires.fed

pub returns-clause-items : goal.returns-clause-items
returns-clause-items g c ts xs fed =
    let batch = c.args.batch.now in
    let f = c.polyphase.result in
    let is = c.polyphase.ensures in
    let type = c.requires.item ∙ ap (λ (m : Meaning). m.inputs.item) is.shaped in
    let hs = map held_of batch.held.now in
    c.filter_items.ensures.numbers
    ∙ (λ i. listed (f.given * batch.count) (λ k. phased (type i) f (taps_among hs (f.taken * (batch.first + k / f.given))) (numbers_of batch.window.now) k))
    ∙ filtered-given is fed
