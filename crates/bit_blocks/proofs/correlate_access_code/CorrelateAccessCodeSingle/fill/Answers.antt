use Rattle.std.proofs.Common.{map, ◌∙◌}
use Rattle.items.specs.Items.{numbers_of}
use Rattle.settings.specs.Values.{held_of}
use Rattle.bit_blocks.proofs.Correlated.{correlate-length, marked-given}
use Rattle.bit_blocks.proofs.correlate_access_code.CorrelateAccessCodeSingle.fill.Goals as goal

pub make_bytes-requires-clause-can : goal.make_bytes-requires-clause-can
make_bytes-requires-clause-can c =
    let b = c.args.self.now in
    (correlate-length b.code b.length b.threshold _ _ _ _ _ _ _ c.requires.fed, c.requires.firings)

pub returns-clause-items : goal.returns-clause-items
returns-clause-items c ts xs fed =
    let b = c.args.self.now in
    let batch = c.args.batch.now in
    c.make_bytes.ensures.numbers ∙ marked-given b.code b.length b.threshold ts xs batch.first batch.count batch.state (numbers_of batch.window.now) (map held_of batch.held.now) fed
