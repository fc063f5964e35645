use Rattle.std.proofs.Common.{length, arith, ap, inl, inr}
use Rattle.std.proofs.lemmas.Result.{err_from_is_err_and}
use Rattle.stream_model.specs.Machine as machine
use Rattle.flowgraph.specs.Flowgraph.{Flowgraph}
use Rattle.plant.specs.Answers.{waiting_reply}
use Rattle.plant.proofs.GivingBack.{plain_reply}
use Rattle.plant.proofs.Answering.{flight_made, claim_plain, claim_made, claim_refused}
use Rattle.plant.proofs.parts.Parts.claim.Goals as goal

pub job-requires-clause-flight : goal.job-requires-clause-flight
job-requires-clause-flight g c = flight_made g.B.Block.meaning c.args.self.now c.decide.new.self c.args.block.0 c.args.max c.requires.right (omega (arith, c.if-len-block.false, c.len.ensures.blocks, ap (λ (x : Flowgraph g.row.B.Denot). length x.blocks) c.deref-2.ensures)) c.decide.result c.decide.ensures.decision c.decide.ensures.state c.in-Claimed.first c.in-Claimed.count c.in-Claimed.is

pub returns-in_err-job-in-Claimed-clause-answered : goal.returns-in_err-job-in-Claimed-clause-answered
returns-in_err-job-in-Claimed-clause-answered g c =
    let p = err_from_is_err_and c.from_residual.result c.from_residual.ensures.1 in
    rw (p.1, p.2) (claim_refused g.B.Block.meaning c.args.self.now c.decide.new.self c.args.block.0 c.args.max c.requires.right (omega (arith, c.if-len-block.false, c.len.ensures.blocks, ap (λ (x : Flowgraph g.row.B.Denot). length x.blocks) c.deref-2.ensures)) c.decide.result c.decide.ensures.decision c.decide.ensures.state c.in-Claimed.first c.in-Claimed.count c.in-Claimed.is _ c.in_err-job-in-Claimed.ensures.given_up)

pub returns-in_ok-job-in-Claimed-clause-answered : goal.returns-in_ok-job-in-Claimed-clause-answered
returns-in_ok-job-in-Claimed-clause-answered g c =
    claim_made g.B.Block.meaning c.args.self.now c.decide.new.self c.args.block.0 c.args.max c.requires.right (omega (arith, c.if-len-block.false, c.len.ensures.blocks, ap (λ (x : Flowgraph g.row.B.Denot). length x.blocks) c.deref-2.ensures)) c.decide.result c.decide.ensures.decision c.decide.ensures.state c.in-Claimed.first c.in-Claimed.count c.in-Claimed.is _ c.in_ok-job-in-Claimed.job.job c.in_ok-job-in-Claimed.ensures.same c.in_ok-job-in-Claimed.ensures.job

pub returns-in-Done-clause-answered : goal.returns-in-Done-clause-answered
returns-in-Done-clause-answered g c =
    elim c.in-Done.is [
      | inl e ↦ claim_plain g.B.Block.meaning c.args.self.now c.decide.new.self c.args.block.0 c.args.max c.requires.right (omega (arith, c.if-len-block.false, c.len.ensures.blocks, ap (λ (x : Flowgraph g.row.B.Denot). length x.blocks) c.deref-2.ensures)) c.decide.result c.decide.ensures.decision c.decide.ensures.state machine.Done (ap plain_reply e)
      | inr e ↦ claim_plain g.B.Block.meaning c.args.self.now c.decide.new.self c.args.block.0 c.args.max c.requires.right (omega (arith, c.if-len-block.false, c.len.ensures.blocks, ap (λ (x : Flowgraph g.row.B.Denot). length x.blocks) c.deref-2.ensures)) c.decide.result c.decide.ensures.decision c.decide.ensures.state machine.Done (ap plain_reply e)
    ]

pub returns-in-Busy-clause-answered : goal.returns-in-Busy-clause-answered
returns-in-Busy-clause-answered g c = claim_plain g.B.Block.meaning c.args.self.now c.decide.new.self c.args.block.0 c.args.max c.requires.right (omega (arith, c.if-len-block.false, c.len.ensures.blocks, ap (λ (x : Flowgraph g.row.B.Denot). length x.blocks) c.deref-2.ensures)) c.decide.result c.decide.ensures.decision c.decide.ensures.state machine.Busy (ap plain_reply c.in-Busy.is)

pub returns-in-Waiting-clause-answered : goal.returns-in-Waiting-clause-answered
returns-in-Waiting-clause-answered g c = claim_plain g.B.Block.meaning c.args.self.now c.decide.new.self c.args.block.0 c.args.max c.requires.right (omega (arith, c.if-len-block.false, c.len.ensures.blocks, ap (λ (x : Flowgraph g.row.B.Denot). length x.blocks) c.deref-2.ensures)) c.decide.result c.decide.ensures.decision c.decide.ensures.state (waiting_reply c.in-Waiting.need) (ap plain_reply c.in-Waiting.is)
