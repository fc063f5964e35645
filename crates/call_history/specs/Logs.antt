-- The logs of desks beside a history.
use Rattle.std.specs.Prelude.{ℕ, ◌≡◌, ◌==◌, List, filter, get_or, [], Bool, false}
use Rattle.call_history.specs.declared.entry.CallerId.{CallerId}
use Rattle.call_history.specs.declared.entry.CallerId.TheVariants as caller
use Rattle.call_history.specs.History.{Noted}

-- what was recorded of the caller at a desk
abbrev pub is_at : ℕ → CallerId → Bool
is_at n (caller.Desk m) = m == n
is_at n (caller.Worker b) = false

abbrev pub noted_at : ℕ → List Noted → List Noted
noted_at n = filter (λ e. is_at n e.caller)

-- each desk's log is what was recorded of it, in that order, and nothing was recorded of a desk that has no log
abbrev pub AreLogs : List (List Noted) → List Noted → Type 0
AreLogs logs history = (n : ℕ) → get_or logs n [] ≡ noted_at n history
