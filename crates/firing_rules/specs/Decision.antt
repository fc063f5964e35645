-- What a claim decides, as the model has it.
use Rattle.std.specs.Prelude.{ℕ, Bool, true, false, ◌||◌}
use Rattle.stream_model.specs.Network.{Network, State, Progress, progress_at}
use Rattle.stream_model.specs.Claims as claims
use Rattle.stream_model.specs.Machine.{Capacities, is_waiting, claim_of}
use Rattle.firing_rules.specs.declared.decision.Need.TheVariants.{Items, Room}
use Rattle.firing_rules.specs.declared.decision.Decision.{Decision}
use Rattle.firing_rules.specs.declared.decision.Decision.TheVariants.{Claimed, Done, Ended, Busy, Waiting}

-- the same decision, where the block has committed so many firings
abbrev pub answer_of : ℕ → claims.Decision → Decision
answer_of first claims.IsDone = Done
answer_of first claims.IsBusy = Busy
answer_of first claims.Ends = Ended
answer_of first (claims.Fires count) = Claimed first count
answer_of first (claims.LacksItems port) = Waiting (Items port)
answer_of first (claims.LacksRoom port) = Waiting (Room port)

-- the progress of a block once this is decided
abbrev pub claimed_by : Progress → Decision → Progress
claimed_by p (Claimed first count) = record p { claimed = count }
claimed_by p Ended = record p { done = true }
claimed_by p Done = p
claimed_by p Busy = p
claimed_by p (Waiting need) = p

abbrev pub waits : Decision → Bool
waits (Claimed first count) = false
waits Done = false
waits Ended = false
waits Busy = false
waits (Waiting need) = true

-- block b is done, or a claim of one firing would wait
abbrev pub rests : Network → Capacities → State → ℕ → Bool
rests net caps st b = (progress_at st.progress b).done || is_waiting (claim_of net caps st b 1).0
