use Rattle.std.proofs.Common.{◌∙◌, map, refl, arith}
use Rattle.kind_model.specs.Math.{number_for, table}
use Rattle.items.specs.Items.{type_of, numbers_of}
use Rattle.settings.specs.Values.{held_of}
use Rattle.block_trait.proofs.Fills.{paced, plain-given}
use Rattle.math_blocks.proofs.table.TableSingle.fill.Goals as goal

pub returns-clause-items : goal.returns-clause-items
returns-clause-items c ts xs fed =
    let batch = c.args.batch.now in
    let values = c.args.self.now.values in
    let m = table (type_of values) (numbers_of values) in
    c.give_numbers.ensures.numbers
    ∙ plain-given m (paced _ _ 1 1 1 _ _ 0 _ m.out (omega arith)) refl ts xs batch.first batch.count batch.state
    (numbers_of batch.window.now) (map held_of batch.held.now) (number_for (numbers_of values)) (λ a. refl) fed
