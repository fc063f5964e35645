use Rattle.std.proofs.Common.{map, ap, ◌∙◌}
use Rattle.items.specs.Items.{numbers_of}
use Rattle.items.specs.Tags.{tag_of}
use Rattle.buffers.specs.Buffer.{BufferState}
use Rattle.plant_laws.specs.Changes.{pushed}
use Rattle.plant_storage.specs.Stores.{buffer_of}
use Rattle.plant_transfers.proofs.States as states
use Rattle.plant_transfers.proofs.rows.push.Goals as goal

pub returns-clause-outputs : goal.returns-clause-outputs
returns-clause-outputs c =
    let found = states.found_there c.args.buffers.now c.args.block.0 c.args.port c.index-buffers-block.result c.index_mut.result.now c.requires.block c.requires.port c.index_mut.ensures.value in
    let is = states.pushed_is c.index_mut.result.now c.push.new.self (numbers_of c.args.items.now) (map tag_of c.args.tags.now) c.push.ensures.item c.push.ensures.ring c.push.ensures.tags in
    states.changed c.args.buffers.now c.args.block.0 c.index-buffers-block.result c.requires.block c.args.port c.push.new.self (λ buffer. pushed buffer (numbers_of c.args.items.now) (map tag_of c.args.tags.now))
    (is ∙ ap (λ (s : BufferState). pushed (buffer_of s) (numbers_of c.args.items.now) (map tag_of c.args.tags.now)) found)

pub returns-clause-others : goal.returns-clause-others
returns-clause-others c = states.others_stay c.args.buffers.now c.args.block.0 c.index-buffers-block.result c.requires.block c.args.port c.push.new.self
