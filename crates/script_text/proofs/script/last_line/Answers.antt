use Rattle.std.proofs.Common.{sym, subst}
use Rattle.script_text.specs.Grammar.{SaysAskable}
use Rattle.script_text.proofs.AskableLemmas.{says_askable}
use Rattle.script_text.proofs.script.last_line.Goals as goal

pub returns-clause-askable : goal.returns-clause-askable
returns-clause-askable c = subst SaysAskable (sym c.in_ok-parse_line.ensures.ok) (says_askable c.in-Some.line.now)
