use Rattle.std.proofs.lemmas.Result.{err_from_is_err_and}
use Rattle.std.proofs.Common.{◌≡◌, suc, ◌+◌, [], ◌∷◌, arith}
use Rattle.script_text.specs.Commands.{command_seen}
use Rattle.script_text.specs.Grammar.{Says, Bad, parsed_from}
use Rattle.script_text.specs.Lines.{lines_of}
use Rattle.script_text.specs.Scripts.{said_of}
use Rattle.flow_core.proofs.Askable.{some_askable, some_bad_last, some_command_last}
use Rattle.flow_core.proofs.Flows.{stops_bad_last, stops_if, stops_in_line, begins_last}
use Rattle.flow_core.proofs.script.answer_last.Goals as goal

pub answer_command-requires-clause-askable : goal.answer_command-requires-clause-askable
answer_command-requires-clause-askable g c = some_askable _ _ _ c.in-Some-Command.is c.in-Some-Command.field-0-is c.in_ok-last_line.ensures.askable

pub returns-in-Some-Bad-clause-stops : goal.returns-in-Some-Bad-clause-stops
returns-in-Some-Bad-clause-stops g c =
    let last : Bad ∷ [] ≡ parsed_from (suc c.args.lines.now.taken) (lines_of c.args.lines.now.rest) = some_bad_last c.args.lines.now _ _ c.in-Some-Bad.is c.in-Some-Bad.field-0-is c.in_ok-last_line.ensures.says in
    stops_bad_last g.A.Answerer.answers c.args.session.now (g.O.ByteOut.contents c.args.output.now) c.args.lines.now (c.taken-last.result + 1) last (omega (arith, c.taken-last.ensures))

pub returns-in-Some-Command-clause-stops : goal.returns-in-Some-Command-clause-stops
returns-in-Some-Command-clause-stops g c =
    let last : Says (command_seen c.in-Some-Command.command) ∷ [] ≡ parsed_from (suc c.args.lines.now.taken) (lines_of c.args.lines.now.rest) = some_command_last c.args.lines.now _ _ c.in-Some-Command.command c.in-Some-Command.is c.in-Some-Command.field-0-is c.in_ok-last_line.ensures.says in
    stops_if g.A.Answerer.answers (λ more. said_of c.args.lines.now []) (command_seen c.in-Some-Command.command) (c.taken-last.result + 1) c.args.session.now c.answer_command.new.session (g.O.ByteOut.contents c.args.output.now) (g.O.ByteOut.contents c.answer_command.new.output) c.args.lines.now.taken c.answer_command.result
    (begins_last g.A.Answerer.answers c.args.lines.now (Says (command_seen c.in-Some-Command.command)) last) (omega (arith, c.taken-last.ensures)) c.answer_command.ensures.unwritten

pub returns-in_err-last_line-clause-stops : goal.returns-in_err-last_line-clause-stops
returns-in_err-last_line-clause-stops g c =
    let p = err_from_is_err_and c.from_residual.result c.from_residual.ensures.1 in
    let list = c.in_err-last_line.ensures.list in
    rw (p.1, p.2)
    (stops_in_line g.A.Answerer.answers (λ more. said_of c.args.lines.now []) _ _ list.0 c.args.lines.now.taken list.1 (begins_last g.A.Answerer.answers c.args.lines.now list.0 list.2))
