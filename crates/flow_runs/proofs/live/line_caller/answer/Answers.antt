use Rattle.std.proofs.lemmas.Result.{err_from_is_err_and}
use Rattle.kinds.specs.Kind.{meaning_of}
use Rattle.flow_runs.specs.AtDesk.{AtDesk}
use Rattle.flow_core.proofs.Flows.{breaks_first}
use Rattle.flow_runs.proofs.Lines.{finishes}
use Rattle.flow_runs.proofs.live.line_caller.answer.Goals as goal

pub returns-in_err-lines : goal.returns-in_err-lines
returns-in_err-lines g c =
    let p = err_from_is_err_and c.from_residual.result c.from_residual.ensures.1 in
    rw (p.1, p.2) (λ reads writes. breaks_first (AtDesk meaning_of) c.args.desk.now (g.I.ByteIn.remaining c.args.input.now) (g.O.ByteOut.contents c.args.output.now))

pub returns : goal.returns
returns g c = λ reads writes. finishes meaning_of _ _ _ _ _ _ c.answer_all.result c.answer_all.ensures.ends c.answer_all.ensures.breaks
