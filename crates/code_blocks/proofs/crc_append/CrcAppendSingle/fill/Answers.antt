use Rattle.std.proofs.Common.{ℕ, ℤ, ◌+◌, ◌*◌, ◌/◌, ◌%◌, map, ◌∙◌}
use Rattle.items.specs.Items.{numbers_of, spare_of}
use Rattle.settings.specs.Values.{held_of}
use Rattle.stream_model.specs.Lists.{listed}
use Rattle.kind_model.specs.Codes.{bytes_of, with_checksum}
use Rattle.code_blocks.proofs.Frames.{length-framed, framed-given, room_of}
use Rattle.code_blocks.proofs.crc_append.CrcAppendSingle.fill.Goals as goal

pub make_bytes-requires-clause-room : goal.make_bytes-requires-clause-room
make_bytes-requires-clause-room c =
    let crc = c.args.self.now.crc in
    let batch = c.args.batch.now in
    room_of (crc.length + bytes_of crc.rule) batch.first batch.count (spare_of c.args.out.now) _ c.requires.ready.room (λ i. (c.length.ensures i + c.bytes.ensures i) * batch.count)

pub make_bytes-requires-clause-can : goal.make_bytes-requires-clause-can
make_bytes-requires-clause-can c =
    let crc = c.args.self.now.crc in
    let batch = c.args.batch.now in
    let can = c.requires in (
      length-framed crc.length crc.rule crc.is can.settings can.streams batch.first batch.count batch.state (numbers_of batch.window.now) (map held_of batch.held.now) can.fed,
      (λ i. (c.length.ensures i + c.bytes.ensures i) * batch.count),
    )

pub returns-clause-items : goal.returns-clause-items
returns-clause-items c ts xs fed =
    let crc = c.args.self.now.crc in
    let batch = c.args.batch.now in
    let m = crc.length + bytes_of crc.rule in
    let given : ℕ → ℤ = λ k. with_checksum crc.rule crc.length (numbers_of batch.window.now) (k / m * crc.length) (k % m) in
    c.make_bytes.ensures.numbers
    ∙ (λ i. listed ((c.length.ensures i + c.bytes.ensures i) * batch.count) given)
    ∙ framed-given crc.length crc.rule crc.is ts xs batch.first batch.count batch.state (numbers_of batch.window.now) (map held_of batch.held.now) fed
