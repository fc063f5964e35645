use Rattle.slices.proofs.Reaching.{IsFirstSoFar}
use Rattle.slices.proofs.plan.Plan.first_end.Given as goal

abbrev pub invariant-loop-at : goal.invariant-loop-at
invariant-loop-at l = IsFirstSoFar l.self l.ends l.first l.at
