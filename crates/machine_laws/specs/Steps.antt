-- Stepping comes to an end: a number that only feeding raises, and that each step forward lowers.
use Rattle.std.specs.Prelude.{ℕ, ◌+◌, ◌-◌, ◌<◌, ◌≤◌, ◌≡◌, length, map, sum_by, Bool, true, false, not, ◌&&◌, nat_lt, cond}
use Rattle.stream_model.specs.Lists.{below}
use Rattle.stream_model.specs.Network.{Network, State, node_at, progress_at, fires, entering}
use Rattle.stream_model.specs.Machine.{Capacities, Call, Feed, Claim, Reply, Done, Did, next, step_of, is_idle, is_quiet}
use Rattle.stream_laws.specs.CanRun.{CanRun}
use Rattle.machine_laws.specs.Sound.{fired, Sound}

-- what is left for block b: the firings up to what its streams allow as they are now, and becoming done
abbrev pub left_for : Network → State → ℕ → ℕ
left_for net st b = fires (node_at net b) (map length (entering net st.handed b)) - fired st b + cond
    (progress_at st.progress b).done 0 1

abbrev pub steps_left : Network → State → ℕ
steps_left net st = sum_by (left_for net st) (below (length net.nodes))

abbrev pub is_feed : Call → Bool
is_feed (Feed b t xs ms) = true
is_feed _ = false

-- a call moves on where it commits firings, or where a claim of at least one firing finds a block done that was not
abbrev pub moves_on : State → Call → Reply → Bool
moves_on st call (Did count) = true
moves_on st (Claim b max) Done = nat_lt 0 max && not (progress_at st.progress b).done
moves_on st call reply = false

-- no call but a feed leaves more steps than there were, and each that moves on leaves fewer
abbrev pub CallsComeToAnEnd : Type 0
CallsComeToAnEnd =
    (net : Network) (caps : Capacities) (st : State) → CanRun net → Sound net caps st → (call : Call) → is_feed call
    ≡ false →
    (steps_left net (next net caps st call).1 ≤ steps_left net st)
    × (moves_on st call (next net caps st call).0 ≡ true → steps_left net (next net caps st call).1 < steps_left net st)

-- the same of claim, work and commit in one
abbrev pub StepsComeToAnEnd : Type 0
StepsComeToAnEnd =
    (net : Network) (caps : Capacities) (st : State) → CanRun net → Sound net caps st → (b max : ℕ)
    → b < length net.nodes →
    (steps_left net (step_of net caps st b max).1 ≤ steps_left net st)
    × (moves_on st (Claim b max) (step_of net caps st b max).0 ≡ true
    → steps_left net (step_of net caps st b max).1 < steps_left net st)

-- where nothing is claimed, a step leaves nothing claimed, and one that does not move on changes nothing
abbrev pub IdleStepsStay : Type 0
IdleStepsStay =
    (net : Network) (caps : Capacities) (st : State) → CanRun net → Sound net caps st → is_idle st ≡ true → (b max : ℕ)
    → b < length net.nodes → 0 < max →
    (is_idle (step_of net caps st b max).1 ≡ true) × (moves_on st (Claim b max) (step_of net caps st b max).0 ≡ false
    → (step_of net caps st b max).1 ≡ st)

-- and where no block's step moves on, the network is quiet
abbrev pub StuckIsQuiet : Type 0
StuckIsQuiet =
    (net : Network) (caps : Capacities) (st : State) → CanRun net → Sound net caps st → is_idle st ≡ true
    → (max : ℕ → ℕ) →
    ((b : ℕ) → b < length net.nodes → (0 < max b) × (moves_on st (Claim b (max b)) (step_of net caps st b (max b)).0
    ≡ false)) → is_quiet net caps st ≡ true
