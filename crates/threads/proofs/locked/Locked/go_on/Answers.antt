use Rattle.threads.proofs.Acts.{one_more}
use Rattle.threads.proofs.locked.Locked.go_on.Goals as goal

pub steps-preserved : goal.steps-preserved
steps-preserved g c =
    one_more g.B.Block.meaning c.args.self.now.engine c.steps.self.engine c.act.new.self.engine c.act.new.self.ends c.act.result c.steps.invariant c.act.ensures c.in_default.not-Some
