use Rattle.std.proofs.Common.{ap}
use Rattle.std.proofs.lemmas.Result.{err_from_is_err_and}
use Rattle.flow_core.specs.Session.{Answers, graph_of, standing_of, none_kept}
use Rattle.flow_core.proofs.Descents.{breaks_there, ends_there, ends_in_it}
use Rattle.flow_core.proofs.Flows.{breaks_first}
use Rattle.flow_core.proofs.script.script.Goals as goal

pub returns-in_err-session-clause-breaks : goal.returns-in_err-session-clause-breaks
returns-in_err-session-clause-breaks g c =
    let p = err_from_is_err_and c.from_residual.result c.from_residual.ensures.1 in
    rw (p.1, p.2)
    (breaks_first (Answers (graph_of g.B.Block.meaning c.args.plant)) (standing_of c.args.plant (none_kept c.args.plant)) (g.I.ByteIn.remaining c.args.input.now) (g.O.ByteOut.contents c.args.output.now))

pub returns-in_err-lines-clause-breaks : goal.returns-in_err-lines-clause-breaks
returns-in_err-lines-clause-breaks g c =
    let p = err_from_is_err_and c.from_residual-in_err-lines.result c.from_residual-in_err-lines.ensures.1 in
    rw (p.1, p.2)
    (breaks_first (Answers (graph_of g.B.Block.meaning c.args.plant)) (standing_of c.args.plant (none_kept c.args.plant)) (g.I.ByteIn.remaining c.args.input.now) (g.O.ByteOut.contents c.args.output.now))

pub returns-in_err-answer_all-clause-breaks : goal.returns-in_err-answer_all-clause-breaks
returns-in_err-answer_all-clause-breaks g c =
    let p = err_from_is_err_and c.from_residual-in_err-answer_all.result c.from_residual-in_err-answer_all.ensures.1 in
    rw (p.1, p.2)
    (breaks_there g.B.Block.meaning _ (g.I.ByteIn.remaining c.args.input.now) _ (g.O.ByteOut.contents c.args.output.now) _ c.in_err-answer_all.field-0.0 (rw c.in_ok-session.ensures at c.in_err-answer_all.ensures.breaks))

pub returns-clause-ends : goal.returns-clause-ends
returns-clause-ends g c =
    rw c.into_plant.ensures
    (record {
      kept = c.answer_all.new.session.kept;
      ends = ends_there g.B.Block.meaning _ c.answer_all.new.session (g.I.ByteIn.remaining c.args.input.now) _ (g.O.ByteOut.contents c.args.output.now) _ (rw c.in_ok-session.ensures at c.in_ok-answer_all.ensures.ends);
    })

pub returns-clause-same : goal.returns-clause-same
returns-clause-same g c =
    rw c.into_plant.ensures
    (ap (λ s. s.plant) (ends_in_it g.B.Block.meaning _ c.answer_all.new.session (g.I.ByteIn.remaining c.args.input.now) _ (g.O.ByteOut.contents c.args.output.now) _ (rw c.in_ok-session.ensures at c.in_ok-answer_all.ensures.ends)))
