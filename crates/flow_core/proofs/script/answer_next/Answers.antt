use Rattle.std.proofs.Common.{◌+◌, arith}
use Rattle.std.proofs.lemmas.Result.{err_from_is_err_and}
use Rattle.script_text.specs.Commands.{command_seen}
use Rattle.script_text.specs.Grammar.{Says}
use Rattle.script_text.specs.Scripts.{said_of, GoesOn}
use Rattle.flow_core.proofs.Askable.{some_askable, some_bad_next, some_goes}
use Rattle.flow_core.proofs.Flows.{stops_at, stops_bad_next, stops_in_line}
use Rattle.flow_core.proofs.script.answer_next.Goals as goal

pub answer_command-requires-clause-askable : goal.answer_command-requires-clause-askable
answer_command-requires-clause-askable g c = some_askable _ _ _ c.in-Some-Command.is c.in-Some-Command.field-0-is c.in_ok-next_line.ensures.askable

pub returns-clause-stops : goal.returns-clause-stops
returns-clause-stops g c =
    let goes : GoesOn (Says (command_seen c.in-Some-Command.command)) c.args.lines.now c.next_line.new.lines = some_goes c.args.lines.now c.next_line.new.lines _ _ c.in-Some-Command.command c.in-Some-Command.is c.in-Some-Command.field-0-is c.in_ok-next_line.ensures.ok in
    stops_at g.A.Answerer.answers (said_of c.args.lines.now) (command_seen c.in-Some-Command.command) (c.taken-number.result + 1) _ _ _ _ c.args.lines.now.taken c.in-Err.fault (λ more. (said_of c.next_line.new.lines more, goes.says more)) (omega (arith, c.taken-number.ensures)) c.in-Err.ensures.unwritten

pub returns-in_err-next_line-clause-stops : goal.returns-in_err-next_line-clause-stops
returns-in_err-next_line-clause-stops g c =
    let p = err_from_is_err_and c.from_residual.result c.from_residual.ensures.1 in
    let list = c.in_err-next_line.ensures.list in
    rw (p.1, p.2)
    (stops_in_line g.A.Answerer.answers (said_of c.args.lines.now) _ _ list.0 c.args.lines.now.taken list.1 list.2)

pub returns-in-Some-Bad-clause-stops : goal.returns-in-Some-Bad-clause-stops
returns-in-Some-Bad-clause-stops g c =
    stops_bad_next g.A.Answerer.answers c.args.session.now (g.O.ByteOut.contents c.args.output.now) c.args.lines.now (c.taken-number.result + 1)
    (some_bad_next c.args.lines.now c.next_line.new.lines _ _ c.in-Some-Bad.is c.in-Some-Bad.field-0-is c.in_ok-next_line.ensures.ok) (omega (arith, c.taken-number.ensures))
