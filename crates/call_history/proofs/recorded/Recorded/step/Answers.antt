use Rattle.std.proofs.Common.{◌≡◌, length, sym, ap, subst, ◌∙◌}
use Rattle.stream_model.specs.Machine as machine
use Rattle.flowgraph.specs.Flowgraph.{net_of}
use Rattle.plant.specs.Answers.{IsOf, claim_reply}
use Rattle.call_history.proofs.Stepping.{not_refused, whole_step}
use Rattle.call_history.proofs.recorded.Recorded.step.Goals as goal

pub returns-in-Ok : goal.returns-in-Ok
returns-in-Ok g c =
    whole_step g.B.Block.meaning c.args.block.0 c.args.max c.args.self.now c.claim.new.self c.commit.new.self _ _ _ _ c.in_ok-job.ensures.noted
    (ap claim_reply c.in-Claimed.is ∙ ap machine.Claimed (sym c.work.ensures.job)) c.in-Ok.ensures.0 c.in-Ok.ensures.1

pub returns-in_default : goal.returns-in_default
returns-in_default g c =
    let many : length c.args.self.now.plant.state.progress ≡ length (net_of g.B.Block.meaning c.args.self.now.plant.graph).nodes = rw (← c.plant.ensures) c.recall.ensures.sound.progress_count in
    absurd (not_refused g.B.Block.meaning c.args.block.0 c.args.max c.args.self.now g.B.PartialEq.eq g.met.B.Eq.laws many c.work.result.graph
    (c.work.ensures.graph ∙ subst (IsOf c.args.self.now.plant.graph) c.in-Claimed.is c.in_ok-job.ensures.of_graph)
    c.claim.new.self _ _ c.in_ok-job.ensures.noted (ap claim_reply c.in-Claimed.is ∙ ap machine.Claimed (sym c.work.ensures.job)) c.in_default.ensures.0)
