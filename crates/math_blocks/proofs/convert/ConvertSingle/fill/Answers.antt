use Rattle.std.proofs.Common.{◌∙◌, map, refl, arith, ap}
use Rattle.stream_model.specs.Numbers.{wrap}
use Rattle.kind_model.specs.Kernels as kernels
use Rattle.kind_model.specs.Math.{convert}
use Rattle.items.specs.Items.{numbers_of}
use Rattle.settings.specs.Values.{held_of}
use Rattle.block_trait.proofs.Fills.{paced, plain-given}
use Rattle.math_blocks.proofs.convert.ConvertSingle.fill.Goals as goal

pub returns-clause-items : goal.returns-clause-items
returns-clause-items c ts xs fed =
    let batch = c.args.batch.now in
    let b = c.args.self.now in
    let w = numbers_of batch.window.now in
    c.convert_items.ensures.numbers
    ∙ ap (λ t. kernels.convert t w) c.requires.ready.item
    ∙ plain-given (convert b.item b.to) (paced _ _ 1 1 1 _ _ 0 _ (convert b.item b.to).out (omega arith)) refl ts xs batch.first batch.count batch.state
    w (map held_of batch.held.now) (wrap b.to) (λ a. refl) fed
