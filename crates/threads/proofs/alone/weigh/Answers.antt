use Rattle.std.proofs.Common.{◌∙◌, ap, sym}
use Rattle.stream_model.specs.Machine as machine
use Rattle.plant.specs.Answers.{claim_reply}
use Rattle.threads.proofs.Keeping.{claim_kept, commit_kept}
use Rattle.call_history.proofs.Weighing.{step_done}
use Rattle.threads.proofs.alone.weigh.Goals as goal

pub returns-in_err-job-clause-handed : goal.returns-in_err-job-clause-handed
returns-in_err-job-clause-handed g c = claim_kept g.B.Block.meaning c.args.plant.now c.claim.new.self c.args.block.0 c.args.most _ c.claim.ensures.answered

pub returns-in-Ok-clause-handed : goal.returns-in-Ok-clause-handed
returns-in-Ok-clause-handed g c =
    commit_kept g.B.Block.meaning c.claim.new.self c.commit.new.self _ _ _ _ c.commit.result c.commit.ensures
    ∙ claim_kept g.B.Block.meaning c.args.plant.now c.claim.new.self c.args.block.0 c.args.most _ c.claim.ensures.answered

pub returns-in-Done-clause-handed : goal.returns-in-Done-clause-handed
returns-in-Done-clause-handed g c = claim_kept g.B.Block.meaning c.args.plant.now c.claim.new.self c.args.block.0 c.args.most _ c.claim.ensures.answered

pub returns-in-Busy-clause-handed : goal.returns-in-Busy-clause-handed
returns-in-Busy-clause-handed g c = claim_kept g.B.Block.meaning c.args.plant.now c.claim.new.self c.args.block.0 c.args.most _ c.claim.ensures.answered

pub returns-in-Waiting-clause-handed : goal.returns-in-Waiting-clause-handed
returns-in-Waiting-clause-handed g c = claim_kept g.B.Block.meaning c.args.plant.now c.claim.new.self c.args.block.0 c.args.most _ c.claim.ensures.answered

pub returns-in_default-clause-handed : goal.returns-in_default-clause-handed
returns-in_default-clause-handed g c =
    commit_kept g.B.Block.meaning c.claim.new.self c.commit.new.self _ _ _ _ c.commit.result c.commit.ensures
    ∙ claim_kept g.B.Block.meaning c.args.plant.now c.claim.new.self c.args.block.0 c.args.most _ c.claim.ensures.answered

pub returns-in-Ok-clause-stepped : goal.returns-in-Ok-clause-stepped
returns-in-Ok-clause-stepped g c =
    step_done g.B.Block.meaning c.args.plant.now c.claim.new.self c.commit.new.self c.args.block.0 c.args.most _ _ _ _ c.in_ok-job.ensures.answered
    (ap claim_reply c.in-Claimed.is ∙ ap machine.Claimed (sym c.work-worked.ensures.job)) c.in-Ok.ensures.0 c.in-Ok.ensures.1
