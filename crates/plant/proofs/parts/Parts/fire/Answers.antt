use Rattle.std.proofs.Common.{ap}
use Rattle.plant.proofs.Lasting.{same_lasts}
use Rattle.plant.proofs.Givings.{right_given_up}
use Rattle.plant.proofs.parts.Parts.fire.Goals as goal

pub returns-in-Err-clause-right : goal.returns-in-Err-clause-right
returns-in-Err-clause-right g c =
    right_given_up g.B.Block.meaning c.args.self.now c.lend.new.self c.args.block.0 c.args.first c.args.count c.deref.result.now c.deref.ensures c.recall.ensures.runs c.in-Err.ensures.same c.in-Err.ensures.right
    c.requires.flight c.abandon.new.self c.abandon.ensures.progress

pub returns-in-Ok-clause-keeps : goal.returns-in-Ok-clause-keeps
returns-in-Ok-clause-keeps g c b k next enough =
    same_lasts g.B.Block.meaning c.work-word.new.self c.store.new.self (ap (λ p. p.graph) c.store.ensures.state) c.store.ensures.lent b k next
    (c.work-word.ensures.keeps b k next (c.in-Ok.ensures.keeps b k next enough))
