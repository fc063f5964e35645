use Rattle.std.proofs.Common.{◌∙◌, map, refl, arith}
use Rattle.items.specs.Items.{numbers_of}
use Rattle.settings.specs.Values.{held_of}
use Rattle.block_trait.proofs.Fills.{paced, plain-given}
use Rattle.math_blocks.specs.ToBytes.{bytes_of}
use Rattle.math_blocks.proofs.to_bytes.fill_bytes.Goals as goal

pub returns-clause-items : goal.returns-clause-items
returns-clause-items g c ts xs fed =
    let batch = c.args.batch.now in
    let t = g.M.MakesByte.takes c.args.block.now.makes in
    let gives = g.M.MakesByte.gives c.args.block.now.makes in
    c.give_bytes.ensures.numbers
    ∙ plain-given (bytes_of t gives) (paced _ _ 1 1 1 _ _ 0 _ (bytes_of t gives).out (omega arith)) refl ts xs batch.first batch.count batch.state
    (numbers_of batch.window.now) (map held_of batch.held.now) gives (λ a. refl) fed
