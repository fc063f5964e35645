use Rattle.std.proofs.Common.{◌∙◌, map, pos, refl, arith}
use Rattle.kind_model.specs.Math.{looked_up, map_bb}
use Rattle.items.specs.Items.{numbers_of}
use Rattle.settings.specs.Values.{held_of}
use Rattle.block_trait.proofs.Fills.{paced, each-given}
use Rattle.math_blocks.proofs.map_bb.MapBbSingle.fill.Goals as goal

pub returns-clause-items : goal.returns-clause-items
returns-clause-items c ts xs fed =
    let batch = c.args.batch.now in
    let table = map pos c.args.self.now.table.items in
    c.make_bytes.ensures.numbers
    ∙ each-given (map_bb table) (paced _ _ 1 1 1 _ _ 0 _ (map_bb table).out (omega arith)) refl ts xs batch.first batch.count batch.state
    (numbers_of batch.window.now) (map held_of batch.held.now) (λ a. looked_up table) (λ a low high. refl) fed batch.count refl
