use Rattle.rates.proofs.counts.pass.Given as goal
use Rattle.rates.proofs.Passing.{IsPassed}

abbrev pub invariant-loop-number : goal.invariant-loop-number
invariant-loop-number g l = IsPassed g.net l.order l.firings l.step l.number-index l.after l.fn.needed l.needed
