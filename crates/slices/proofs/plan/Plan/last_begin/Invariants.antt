use Rattle.slices.proofs.Reaching.{IsLastSoFar}
use Rattle.slices.proofs.plan.Plan.last_begin.Given as goal

abbrev pub invariant-loop-at : goal.invariant-loop-at
invariant-loop-at l = IsLastSoFar l.self l.starts l.last l.at
