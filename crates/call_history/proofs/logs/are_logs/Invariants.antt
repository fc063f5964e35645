use Rattle.std.proofs.Common.{◌≡◌, ◌<◌, ℕ, [], map, get_or}
use Rattle.call_history.specs.History.{noted_by}
use Rattle.call_history.specs.Logs.{noted_at}
use Rattle.call_history.proofs.logs.are_logs.Given as goal

abbrev pub invariant-loop-desk : goal.invariant-loop-desk
invariant-loop-desk l = (n : ℕ) → n < l.desk → get_or (map (λ v. map noted_by v.items) l.logs) n [] ≡ noted_at n (map noted_by l.history)
