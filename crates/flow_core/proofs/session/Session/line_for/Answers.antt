use Rattle.std.proofs.Common.{◌∙◌, ap}
use Rattle.std.specs.Prelude.{position, bytes_eq}
use Rattle.std.specs.Vec.{with_items}
use Rattle.std.proofs.lemmas.List.{with_items_is}
use Rattle.script_text.specs.Commands.{command_seen}
use Rattle.flow_core.proofs.Sessions.{if_ok}
use Rattle.flow_core.proofs.Naming.{session_answers}
use Rattle.flow_core.proofs.session.Session.line_for.Goals as goal

pub returns-in-Some-find-clause-answers : goal.returns-in-Some-find-clause-answers
returns-in-Some-find-clause-answers g c =
    let jobs = c.self.inside.jobs in
    let after = c.answer_on.new.jobs in
    let back = with_items_is jobs after (c.answer_on.auto.jobs ∙ c.deref_mut.ensures.len) in
    if_ok _ _ c.answer_on.result c.answer_on.ensures.answers (λ line h.
    session_answers g.B.Block.meaning c.self.inside.plant c.deref_mut.result.now jobs.items after (with_items jobs after).items c.args.self.now (command_seen c.args.command.now)
    c.answer_on.new.plant.state line.items c.deref_mut.ensures.value c.self.view_is back c.in-Some.name.now c.in-Some-find.block.0 c.in-Some.ensures (c.in-Some-find.ensures.named ∙ ap (λ x. position (bytes_eq c.in-Some.name.now) x.names) c.graph.ensures) h)
