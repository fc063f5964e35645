use Rattle.std.proofs.Common.{ap}
use Rattle.script_text.specs.Commands.{command_seen}
use Rattle.flow_core.specs.Session.{AnswersOn, graph_of, kept_in, standing_of}
use Rattle.flow_core.proofs.Sessions.{if_ok, on_as, quiet_gives}
use Rattle.flow_core.proofs.session.answer_all.Goals as goal

pub returns-in-Quiet-clause-answers : goal.returns-in-Quiet-clause-answers
unfolding AnswersOn
returns-in-Quiet-clause-answers g c =
    let graph = graph_of g.B.Block.meaning c.args.plant.now in
    let from = standing_of c.args.plant.now (kept_in c.args.jobs.now) in
    if_ok _ _ c.to_line.result c.to_line.ensures (λ line e.
    on_as graph 0 _ _ from from line.items (ap command_seen c.in-Quiet.is) (quiet_gives graph from c.quiet.result line.items c.quiet.ensures.value e))

pub returns-in-Settle-clause-answers : goal.returns-in-Settle-clause-answers
unfolding AnswersOn
returns-in-Settle-clause-answers g c =
    let from = standing_of c.args.plant.now (kept_in c.args.jobs.now) in
    if_ok _ _ c.settle_all.result c.settle_all.ensures.settles (λ line h.
    on_as (graph_of g.B.Block.meaning c.args.plant.now) 0 _ _ from _ line.items (ap command_seen c.in-Settle.is) h)
