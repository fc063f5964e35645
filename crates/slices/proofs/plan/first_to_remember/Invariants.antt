use Rattle.std.proofs.Common.{◌≡◌, ℕ, ◌<◌, true}
use Rattle.slices.specs.LookBack.{is_forgetful}
use Rattle.slices.specs.Firings.{looks_of, look_at}
use Rattle.slices.proofs.plan.first_to_remember.Given as goal

abbrev pub invariant-loop-block : goal.invariant-loop-block
invariant-loop-block g l = (b : ℕ) → b < l.block → is_forgetful (look_at (looks_of g.B.Forgets.looks_back l.graph) b) ≡ true
