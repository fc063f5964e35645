use Rattle.std.proofs.Common.{length, refl, arith, ap, ◌∙◌, subst, inl, inr}
use Rattle.std.proofs.lemmas.Result.{err_from_is_err_and}
use Rattle.stream_model.specs.Machine as machine
use Rattle.stream_model.specs.Network.{progress_at}
use Rattle.firing_rules.specs.Decision.{answer_of}
use Rattle.flowgraph.specs.Flowgraph.{Flowgraph}
use Rattle.plant.specs.Memory.{NeedsNone}
use Rattle.plant.specs.Answers.{waiting_reply}
use Rattle.plant.proofs.Lasting.{same_claim, same_lasts, needs_none}
use Rattle.plant.proofs.GivingBack.{plain_reply}
use Rattle.plant.proofs.Answering.{flight_made, step_plain, step_made, step_refused}
use Rattle.plant.proofs.parts.Parts.step.Goals as goal

pub fire-requires-clause-flight : goal.fire-requires-clause-flight
fire-requires-clause-flight g c = flight_made g.B.Block.meaning c.args.self.now c.decide.new.self c.args.block.0 c.args.max c.requires.right (omega (arith, c.if-len-block.false, c.len.ensures.blocks, ap (λ (x : Flowgraph g.row.B.Denot). length x.blocks) c.deref-2.ensures)) c.decide.result c.decide.ensures.decision c.decide.ensures.state c.in-Claimed.first c.in-Claimed.count c.in-Claimed.is

pub returns-in_err-fire-in-Claimed-clause-answered : goal.returns-in_err-fire-in-Claimed-clause-answered
returns-in_err-fire-in-Claimed-clause-answered g c =
    let p = err_from_is_err_and c.from_residual.result c.from_residual.ensures.1 in
    rw (p.1, p.2) (step_refused g.B.Block.meaning c.args.self.now c.decide.new.self c.args.block.0 c.args.max c.requires.right (omega (arith, c.if-len-block.false, c.len.ensures.blocks, ap (λ (x : Flowgraph g.row.B.Denot). length x.blocks) c.deref-2.ensures)) c.decide.result c.decide.ensures.decision c.decide.ensures.state c.in-Claimed.first c.in-Claimed.count c.in-Claimed.is _ c.in_err-fire-in-Claimed.ensures.given_up)

pub returns-in_ok-fire-in-Claimed-clause-answered : goal.returns-in_ok-fire-in-Claimed-clause-answered
returns-in_ok-fire-in-Claimed-clause-answered g c =
    step_made g.B.Block.meaning c.args.self.now c.decide.new.self c.args.block.0 c.args.max c.requires.right (omega (arith, c.if-len-block.false, c.len.ensures.blocks, ap (λ (x : Flowgraph g.row.B.Denot). length x.blocks) c.deref-2.ensures)) c.decide.result c.decide.ensures.decision c.decide.ensures.state c.in-Claimed.first c.in-Claimed.count c.in-Claimed.is _ c.in_ok-fire-in-Claimed.ensures.fired

pub returns-in-Done-clause-answered : goal.returns-in-Done-clause-answered
returns-in-Done-clause-answered g c =
    elim c.in-Done.is [
      | inl e ↦ step_plain g.B.Block.meaning c.args.self.now c.decide.new.self c.args.block.0 c.args.max c.requires.right (omega (arith, c.if-len-block.false, c.len.ensures.blocks, ap (λ (x : Flowgraph g.row.B.Denot). length x.blocks) c.deref-2.ensures)) c.decide.result c.decide.ensures.decision c.decide.ensures.state machine.Done (ap plain_reply e)
      | inr e ↦ step_plain g.B.Block.meaning c.args.self.now c.decide.new.self c.args.block.0 c.args.max c.requires.right (omega (arith, c.if-len-block.false, c.len.ensures.blocks, ap (λ (x : Flowgraph g.row.B.Denot). length x.blocks) c.deref-2.ensures)) c.decide.result c.decide.ensures.decision c.decide.ensures.state machine.Done (ap plain_reply e)
    ]

pub returns-in-Busy-clause-answered : goal.returns-in-Busy-clause-answered
returns-in-Busy-clause-answered g c = step_plain g.B.Block.meaning c.args.self.now c.decide.new.self c.args.block.0 c.args.max c.requires.right (omega (arith, c.if-len-block.false, c.len.ensures.blocks, ap (λ (x : Flowgraph g.row.B.Denot). length x.blocks) c.deref-2.ensures)) c.decide.result c.decide.ensures.decision c.decide.ensures.state machine.Busy (ap plain_reply c.in-Busy.is)

pub returns-in-Waiting-clause-answered : goal.returns-in-Waiting-clause-answered
returns-in-Waiting-clause-answered g c = step_plain g.B.Block.meaning c.args.self.now c.decide.new.self c.args.block.0 c.args.max c.requires.right (omega (arith, c.if-len-block.false, c.len.ensures.blocks, ap (λ (x : Flowgraph g.row.B.Denot). length x.blocks) c.deref-2.ensures)) c.decide.result c.decide.ensures.decision c.decide.ensures.state (waiting_reply c.in-Waiting.need) (ap plain_reply c.in-Waiting.is)

pub returns-in_err-fire-in-Claimed-clause-succeeds : goal.returns-in_err-fire-in-Claimed-clause-succeeds
returns-in_err-fire-in-Claimed-clause-succeeds g c count fires needs inside =
    let old = c.args.self.now in
    let b = c.args.block.0 in
    let firings = (progress_at old.firings b).firings in
    let same = same_claim c.decide.result firings count c.in-Claimed.first c.in-Claimed.count (c.decide.ensures.decision ∙ ap (answer_of firings) fires) c.in-Claimed.is in
    let here = subst (λ n. NeedsNone g.B.Block.meaning old b c.in-Claimed.first n) same.1 (subst (λ k. NeedsNone g.B.Block.meaning old b k count) same.0 needs) in
    let none = needs_none g.B.Block.meaning old c.decide.new.self (ap (λ p. p.graph) c.decide.ensures.state) c.decide.ensures.lent (c.in-Claimed.ensures.stores refl) b c.in-Claimed.first c.in-Claimed.count here in
    let fired = c.in_err-fire-in-Claimed.ensures.succeeds none in
    cc

pub returns-in_err-fire-in-Claimed-clause-keeps : goal.returns-in_err-fire-in-Claimed-clause-keeps
returns-in_err-fire-in-Claimed-clause-keeps g c b k next enough =
    c.in_err-fire-in-Claimed.ensures.keeps b k next (same_lasts g.B.Block.meaning c.args.self.now c.decide.new.self (ap (λ p. p.graph) c.decide.ensures.state) c.decide.ensures.lent b k next enough)

pub returns-in_ok-fire-in-Claimed-clause-keeps : goal.returns-in_ok-fire-in-Claimed-clause-keeps
returns-in_ok-fire-in-Claimed-clause-keeps g c b k next enough =
    c.in_ok-fire-in-Claimed.ensures.keeps b k next (same_lasts g.B.Block.meaning c.args.self.now c.decide.new.self (ap (λ p. p.graph) c.decide.ensures.state) c.decide.ensures.lent b k next enough)
