use Rattle.std.proofs.Common.{◌*◌, map, refl, ◌∙◌}
use Rattle.items.specs.Items.{numbers_of, spare_of}
use Rattle.settings.specs.Values.{held_of}
use Rattle.viterbi_decoder.specs.Model.{trellis_of}
use Rattle.code_blocks.proofs.Frames.{room_of}
use Rattle.code_blocks.proofs.Trellises.{length-blocks, blocks-given}
use Rattle.code_blocks.proofs.viterbi.ViterbiSingle.fill.Goals as goal

pub give_symbols-requires-clause-items : goal.give_symbols-requires-clause-items
give_symbols-requires-clause-items c =
    let self = c.args.self.now in
    let batch = c.args.batch.now in
    let can = c.requires in
    length-blocks self.item (trellis_of self.decoder) self.decoder.is can.settings can.streams batch.first batch.count batch.state (numbers_of batch.window.now) (map held_of batch.held.now) can.fed

pub give_symbols-requires-clause-room : goal.give_symbols-requires-clause-room
give_symbols-requires-clause-room c =
    let batch = c.args.batch.now in
    let steps = c.args.self.now.decoder.steps in
    room_of steps batch.first batch.count (spare_of c.args.out.now) (steps * batch.count) c.requires.ready.room refl

pub returns-clause-items : goal.returns-clause-items
returns-clause-items c ts xs fed =
    let self = c.args.self.now in
    let batch = c.args.batch.now in
    c.give_symbols.ensures.numbers
    ∙ blocks-given self.item (trellis_of self.decoder) self.decoder.is ts xs batch.first batch.count batch.state (numbers_of batch.window.now) (map held_of batch.held.now) fed
