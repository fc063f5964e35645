use Rattle.rates.proofs.Steps.{IsStepped}
use Rattle.rates.proofs.needs.run.Given as goal

abbrev pub ghost-are_past : goal.ghost-are_past
ghost-are_past g a = g.net

abbrev pub ghost-start : goal.ghost-start
ghost-start g a = g.net

abbrev pub ghost-pass : goal.ghost-pass
ghost-pass g a = g.net

abbrev pub invariant-loop-step : goal.invariant-loop-step
invariant-loop-step g l = IsStepped g.net l.firings l.step l.before l.after l.needed
