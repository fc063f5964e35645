use Rattle.std.proofs.Common.{◌∙◌, map}
use Rattle.items.specs.Items.{numbers_of}
use Rattle.settings.specs.Values.{held_of}
use Rattle.bit_blocks.proofs.Coded.{decode-given}
use Rattle.bit_blocks.proofs.diff_decoder.DiffDecoderSingle.fill.Goals as goal

pub returns-clause-items : goal.returns-clause-items
returns-clause-items c ts xs fed =
    let m = c.args.self.now.modulus in
    let batch = c.args.batch.now in
    c.make_bytes.ensures.numbers ∙ decode-given m.value ts xs batch.first batch.count batch.state (numbers_of batch.window.now) (map held_of batch.held.now) fed
