use Rattle.std.proofs.Common.{◌≡◌, ◌≤◌, ℕ, [], map, take}
use Rattle.call_history.specs.History.{noted_by}
use Rattle.call_history.specs.Logs.{noted_at}
use Rattle.call_history.proofs.logs.are_within.Given as goal

abbrev pub invariant-loop-entry : goal.invariant-loop-entry
invariant-loop-entry l = (n : ℕ) → l.desks ≤ n → noted_at n (map noted_by (take l.entry-index l.history)) ≡ []
