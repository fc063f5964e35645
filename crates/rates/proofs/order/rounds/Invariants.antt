use Rattle.std.proofs.Common.{ℕ}
use Rattle.stream_model.specs.Network.{HasLevels}
use Rattle.rates.proofs.Ordering.{IsRound}
use Rattle.rates.proofs.order.rounds.Given as goal

abbrev pub ghost-mark : goal.ghost-mark
ghost-mark g a = g.net

abbrev pub ghost-place : goal.ghost-place
ghost-place g a = g.net

abbrev pub invariant-loop-round : goal.invariant-loop-round
invariant-loop-round g l = (level : ℕ → ℕ) → HasLevels g.net level → IsRound g.net level l.placed l.ready l.order.items l._round
