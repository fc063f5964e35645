use Rattle.script_text.proofs.ScriptLemmas.{on_err, list_asked}
use Rattle.std.proofs.Common.{sym, ◌∙◌, arith}
use Rattle.script_text.proofs.parse.parse_line.Goals as goal

pub returns-in_err-command-clause-err : goal.returns-in_err-command-clause-err
returns-in_err-command-clause-err c =
    on_err _ (list_asked c.args.line.now _ _ (omega (arith, c.if-line-gt-LONGEST_LINE.false)) (sym c.begins_with.ensures ∙ c.if-begins_with.false) c.in-Some.ensures.found c.in_err-command.ensures.err)
