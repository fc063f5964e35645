use Rattle.std.proofs.Common.{subst}
use Rattle.block_trait.specs.Fill.{HasFilled}
use Rattle.math_blocks.proofs.per_item.PerItemSingle.fill.Goals as goal

pub returns-clause-items : goal.returns-clause-items
returns-clause-items g c = subst (λ m. HasFilled m c.args.batch.now c.fill_made.new.out) (g.met.M.Makes.is_made c.args.self.now.makes) c.fill_made.ensures.items
