use Rattle.std.proofs.Common.{map, ◌∙◌}
use Rattle.items.specs.Items.{numbers_of}
use Rattle.settings.specs.Values.{held_of}
use Rattle.code_blocks.proofs.Frames.{length-checked, checked-given}
use Rattle.code_blocks.proofs.crc_check.CrcCheckSingle.fill.Goals as goal

pub make_bytes-requires-clause-can : goal.make_bytes-requires-clause-can
make_bytes-requires-clause-can c =
    let crc = c.args.self.now.crc in
    let batch = c.args.batch.now in
    let can = c.requires in
    length-checked crc.length crc.rule crc.is can.settings can.streams batch.first batch.count batch.state (numbers_of batch.window.now) (map held_of batch.held.now) can.fed

pub returns-clause-items : goal.returns-clause-items
returns-clause-items c ts xs fed =
    let crc = c.args.self.now.crc in
    let batch = c.args.batch.now in
    c.make_bytes.ensures.numbers
    ∙ checked-given crc.length crc.rule crc.is ts xs batch.first batch.count batch.state (numbers_of batch.window.now) (map held_of batch.held.now) fed
