use Rattle.std.proofs.Common.{ℕ, ◌<◌, ◌≤◌, get_or}
use Rattle.slices.specs.declared.TheConstants.{MOST_FIRINGS}
use Rattle.slices.proofs.first_firings.are_early.Given as goal

abbrev pub invariant-loop-firing : goal.invariant-loop-firing
invariant-loop-firing l = (k : ℕ) → k < l.firing-index → get_or l.first k 0 ≤ MOST_FIRINGS
