use Rattle.std.proofs.Common.{◌∙◌, inl, inr, refl, sym, ap, subst}
use Rattle.flowgraph.specs.Flowgraph.{net_of}
use Rattle.stream_model.specs.Machine as machine
use Rattle.plant.specs.Answers.{IsOf, claim_reply, refusal_of}
use Rattle.flow_core.proofs.Sessions.{if_ok, moves}
use Rattle.flow_core.proofs.Claiming.{claim_keeps, claimed_keeps, claimed_gives}
use Rattle.flow_core.proofs.session.claims.claim.Goals as goal

pub returns-in-Ok-Done-clause-jobs : goal.returns-in-Ok-Done-clause-jobs
returns-in-Ok-Done-clause-jobs g c =
    let to = c.in-Ok-Done.ensures.answered.1 in
    rw to (claim_keeps (net_of g.B.Block.meaning c.args.plant.now.graph) c.args.plant.now.capacities c.args.plant.now.state c.recall.ensures.runs c.recall.ensures.sound c.args.plant.now.graph c.args.jobs.now c.requires.jobs c.args.block.0 c.requires.inside c.args.max _ refl)

pub returns-in-Ok-Busy-clause-jobs : goal.returns-in-Ok-Busy-clause-jobs
returns-in-Ok-Busy-clause-jobs g c =
    let to = c.in-Ok-Busy.ensures.answered.1 in
    rw to (claim_keeps (net_of g.B.Block.meaning c.args.plant.now.graph) c.args.plant.now.capacities c.args.plant.now.state c.recall.ensures.runs c.recall.ensures.sound c.args.plant.now.graph c.args.jobs.now c.requires.jobs c.args.block.0 c.requires.inside c.args.max _ refl)

pub returns-in-Ok-Waiting-clause-jobs : goal.returns-in-Ok-Waiting-clause-jobs
returns-in-Ok-Waiting-clause-jobs g c =
    let to = c.in-Ok-Waiting.ensures.answered.1 in
    rw to (claim_keeps (net_of g.B.Block.meaning c.args.plant.now.graph) c.args.plant.now.capacities c.args.plant.now.state c.recall.ensures.runs c.recall.ensures.sound c.args.plant.now.graph c.args.jobs.now c.requires.jobs c.args.block.0 c.requires.inside c.args.max _ refl)

pub returns-in-Err-clause-jobs : goal.returns-in-Err-clause-jobs
returns-in-Err-clause-jobs g c =
    let net = net_of g.B.Block.meaning c.args.plant.now.graph in
    elim (moves (machine.next net c.args.plant.now.capacities c.args.plant.now.state (machine.Claim c.args.block.0 c.args.max)) c.args.plant.now c.claim.new.self (refusal_of c.in-Err.fault) c.in-Err.ensures.answered) [
      | inl stays ↦ rw stays c.requires.jobs
      | inr goes ↦ rw goes (claim_keeps net c.args.plant.now.capacities c.args.plant.now.state c.recall.ensures.runs c.recall.ensures.sound c.args.plant.now.graph c.args.jobs.now c.requires.jobs c.args.block.0 c.requires.inside c.args.max _ refl)
    ]

pub returns-in-Ok-Claimed-clause-jobs : goal.returns-in-Ok-Claimed-clause-jobs
returns-in-Ok-Claimed-clause-jobs g c =
    let graph = c.args.plant.now.graph in
    let claimed = c.in-Ok-Claimed.field-0-is in
    let answered = c.in-Ok-Claimed.ensures.answered in
    rw answered.1
    (claimed_keeps (net_of g.B.Block.meaning graph) c.args.plant.now.capacities c.args.plant.now.state c.recall.ensures.runs c.recall.ensures.sound graph c.args.jobs.now c.requires.jobs c.args.block.0 c.requires.inside c.args.max _ c.in-Ok-Claimed.job
    (subst (λ x. IsOf graph x) claimed c.in-Ok-Claimed.ensures.of_graph) (ap (λ x. claim_reply x) (sym claimed) ∙ answered.0) refl)

pub returns-in-Ok-Claimed-clause-gives : goal.returns-in-Ok-Claimed-clause-gives
returns-in-Ok-Claimed-clause-gives g c =
    let st = c.args.plant.now.state in
    let now = machine.next (net_of g.B.Block.meaning c.args.plant.now.graph) c.args.plant.now.capacities st (machine.Claim c.args.block.0 c.args.max) in
    let job = c.in-Ok-Claimed.job in
    let answered = c.in-Ok-Claimed.ensures.answered in
    rw answered.1
    (if_ok _ _ c.to_line.result c.to_line.ensures (λ line e.
    claimed_gives c.args.jobs.now job st now.1 c.args.block.0 now job.job c.first-first.result c.count-count.result line.items c.first-first.ensures c.count-count.ensures
    (ap (λ x. claim_reply x) (sym c.in-Ok-Claimed.field-0-is) ∙ answered.0) refl e))
