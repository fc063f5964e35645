use Rattle.std.proofs.Common.{suc, sym, ap, subst, ◌∙◌, arith}
use Rattle.script_text.specs.Grammar.{SaysAskable, SaysList, parsed_line, parsed_at}
use Rattle.script_text.specs.Scripts.{said_of, StopsAtList}
use Rattle.script_text.specs.Splits.{TakesLine}
use Rattle.script_text.proofs.ScriptLemmas.{on_err, taken_says, taken_bad, taken_next, within_lines, beyond_lines, too_long_next}
use Rattle.script_text.proofs.AskableLemmas.{says_askable}
use Rattle.script_text.proofs.script.next_line.Goals as goal

pub returns-then-taken-gt-MOST_LINES-clause-ok : goal.returns-then-taken-gt-MOST_LINES-clause-ok
returns-then-taken-gt-MOST_LINES-clause-ok c =
    let old = c.args.lines.now in
    let new = c.take_line.new.self in
    let took : TakesLine old new = c.in-Whole.ensures in
    let beyond = beyond_lines (suc old.taken) new.line (omega (arith, took.counted, c.taken.ensures, c.if-taken-gt-MOST_LINES.true)) in
    taken_bad old new took beyond

pub returns-in_ok-parse_line-in-Whole-clause-ok : goal.returns-in_ok-parse_line-in-Whole-clause-ok
returns-in_ok-parse_line-in-Whole-clause-ok c =
    let old = c.args.lines.now in
    let new = c.take_line.new.self in
    let took : TakesLine old new = c.in-Whole.ensures in
    let within = within_lines (suc old.taken) new.line (omega (arith, took.counted, c.taken.ensures, c.if-taken-gt-MOST_LINES.false)) in
    let says = c.in_ok-parse_line-in-Whole.ensures.ok ∙ ap parsed_line c.line.ensures in
    taken_next old new _ took (omega (arith, c.taken.ensures, c.if-taken-gt-MOST_LINES.false)) (within ∙ sym says)

pub returns-in-TooLong-clause-ok : goal.returns-in-TooLong-clause-ok
returns-in-TooLong-clause-ok c = too_long_next c.args.lines.now c.take_line.new.self c.in-TooLong.ensures.0

pub returns-in_ok-parse_line-in-Whole-clause-askable : goal.returns-in_ok-parse_line-in-Whole-clause-askable
returns-in_ok-parse_line-in-Whole-clause-askable c =
    subst SaysAskable (sym c.in_ok-parse_line-in-Whole.ensures.ok) (says_askable c.line.result.now)

pub returns-in_err-parse_line-in-Whole-clause-list : goal.returns-in_err-parse_line-in-Whole-clause-list
returns-in_err-parse_line-in-Whole-clause-list c =
    let old = c.args.lines.now in
    let new = c.take_line.new.self in
    let took : TakesLine old new = c.in-Whole.ensures in
    let within = within_lines (suc old.taken) new.line (omega (arith, took.counted, c.taken.ensures, c.if-taken-gt-MOST_LINES.false)) in
    let words = subst (λ line. SaysList (parsed_line line)) c.line.ensures c.in_err-parse_line-in-Whole.ensures.err in
    let stops : StopsAtList old = (parsed_at (suc old.taken) new.line, subst SaysList (sym within) words, λ more. (said_of new more, taken_says old new took more)) in
    on_err _ stops
