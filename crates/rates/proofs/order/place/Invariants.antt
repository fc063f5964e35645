use Rattle.rates.proofs.Ordering.{IsPlacing}
use Rattle.rates.proofs.order.place.Given as goal

abbrev pub invariant-loop-number : goal.invariant-loop-number
invariant-loop-number g l = IsPlacing g.net l.ready l.fn.placed l.placed l.order.items l.number
