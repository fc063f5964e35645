use Rattle.std.proofs.Common.{sym, ◌∙◌}
use Rattle.stream_model.specs.Machine as machine
use Rattle.flow_core.proofs.Sessions.{if_ok}
use Rattle.flow_core.proofs.Claiming.{commit_gives_back, none_stays, none_answered, given_comes, given_keeps, given_answered}
use Rattle.flow_core.proofs.session.claims.commit.Goals as goal

pub unreachable-requires : goal.unreachable-requires
unreachable-requires g c =
    let back = rw (c.work.ensures.graph, c.work.ensures.job) at c.in-Err.ensures in
    given_comes g.B.Block.meaning c.args.plant.now c.recall.ensures.runs c.recall.ensures.sound c.args.jobs.now c.requires.jobs c.args.block.0 c.requires.inside c.index-jobs-block.result
    c.in-Some.job c.in-Some.ensures.value machine.Commit (commit_gives_back _ _ _) g.B.PartialEq.eq g.met.B.Eq.laws back.0

pub returns-clause-jobs : goal.returns-clause-jobs
returns-clause-jobs g c =
    let did = rw (c.work.ensures.graph, c.work.ensures.job) at c.in-Ok.ensures in
    rw (did.1, c.take.ensures.after)
    (given_keeps g.B.Block.meaning c.args.plant.now c.recall.ensures.runs c.recall.ensures.sound c.args.jobs.now c.requires.jobs c.args.block.0 c.requires.inside c.index-jobs-block.result
    c.in-Some.job c.in-Some.ensures.value machine.Commit (commit_gives_back _ _ _) g.B.PartialEq.eq g.met.B.Eq.laws)

pub returns-clause-gives : goal.returns-clause-gives
returns-clause-gives g c =
    let did = rw (c.work.ensures.graph, c.work.ensures.job) at c.in-Ok.ensures in
    rw (did.1, c.take.ensures.after)
    (if_ok _ _ c.to_line-in-Ok.result c.to_line-in-Ok.ensures (λ line e.
    given_answered g.B.Block.meaning c.args.plant.now c.recall.ensures.runs c.recall.ensures.sound c.args.jobs.now c.requires.jobs c.args.block.0 c.requires.inside c.index-jobs-block.result
    c.in-Some.job c.in-Some.ensures.value machine.Commit (commit_gives_back _ _ _) g.B.PartialEq.eq g.met.B.Eq.laws (machine.Did c.in-Ok.field-0.0) line.items did.0 e))

pub returns-in_default-clause-jobs : goal.returns-in_default-clause-jobs
returns-in_default-clause-jobs g c =
    rw c.take.ensures.after
    (none_stays g.B.Block.meaning c.args.plant.now c.recall.ensures.runs c.recall.ensures.sound c.args.jobs.now c.requires.jobs c.args.block.0 c.requires.inside c.index-jobs-block.result
    (sym c.in_default.is ∙ c.take.ensures.value))

pub returns-in_default-clause-gives : goal.returns-in_default-clause-gives
returns-in_default-clause-gives g c =
    rw c.take.ensures.after
    (if_ok _ _ c.to_line.result c.to_line.ensures (λ line e.
    none_answered g.B.Block.meaning c.args.plant.now c.recall.ensures.runs c.recall.ensures.sound c.args.jobs.now c.requires.jobs c.args.block.0 c.requires.inside c.index-jobs-block.result
    (sym c.in_default.is ∙ c.take.ensures.value) _ line.items e))
