use Rattle.std.proofs.Common.{subst}
use Rattle.block_trait.specs.Fill.{HasFilled}
use Rattle.rate_blocks.proofs.per_frame.PerFrameCounting.fill.Goals as goal

pub returns-clause-items : goal.returns-clause-items
returns-clause-items g c = subst (λ m. HasFilled m c.args.batch.now c.fill_framed.new.out) (g.met.M.MakesOne.is_made c.args.item c.args.n c.requires.least) c.fill_framed.ensures.items
