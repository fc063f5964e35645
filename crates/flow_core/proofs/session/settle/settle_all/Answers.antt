use Rattle.std.proofs.Common.{sym, ◌∙◌}
use Rattle.flow_core.proofs.Resting.{idle_keeps}
use Rattle.flow_core.proofs.session.settle.settle_all.Goals as goal

pub returns-in-Ok-Done-clause-jobs : goal.returns-in-Ok-Done-clause-jobs
returns-in-Ok-Done-clause-jobs g c =
    idle_keeps g.B.Block.meaning c.args.plant.now c.settle.new.self c.settle.ensures.same c.args.jobs.now c.recall.ensures.sound (sym c.idle.ensures ∙ c.if-not-idle.false) c.requires

pub returns-in-Ok-Quiet-clause-jobs : goal.returns-in-Ok-Quiet-clause-jobs
returns-in-Ok-Quiet-clause-jobs g c =
    idle_keeps g.B.Block.meaning c.args.plant.now c.settle.new.self c.settle.ensures.same c.args.jobs.now c.recall.ensures.sound (sym c.idle.ensures ∙ c.if-not-idle.false) c.requires

pub returns-in-Err-clause-jobs : goal.returns-in-Err-clause-jobs
returns-in-Err-clause-jobs g c =
    idle_keeps g.B.Block.meaning c.args.plant.now c.settle.new.self c.settle.ensures.same c.args.jobs.now c.recall.ensures.sound (sym c.idle.ensures ∙ c.if-not-idle.false) c.requires
