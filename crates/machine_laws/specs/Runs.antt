-- Runs: what is true after any list of calls, of any blocks in any order and amounts.
use Rattle.std.specs.Prelude.{ℕ, ◌<◌, ◌≤◌, ◌≡◌, List, length, true}
use Rattle.stream_model.specs.Meaning.{input}
use Rattle.stream_model.specs.Network.{Network, State, role_at, is_keeper, entering, opening_within}
use Rattle.stream_model.specs.Machine.{Capacities, Call, run_of, is_quiet, is_all_done, IsWhole}
use Rattle.graph_model.specs.Rates.{HasCapacities}
use Rattle.stream_laws.specs.CanRun.{CanRun}
use Rattle.stream_laws.specs.Past.{IsUndisturbed}
use Rattle.machine_laws.specs.Sound.{fired, Sound}
use Rattle.machine_laws.specs.Stalls.{AreClosed}

-- the state that calls lead to
abbrev pub state_after : Network → Capacities → State → List Call → State
state_after net caps st calls = (run_of net caps st calls).1

-- what is committed when some calls begin is there when they end: no firing is lost, and what they took and gave is as
-- it was
pub record RunStays (net : Network) (caps : Capacities) (st : State) (calls : List Call) (b : ℕ) : Type 0 where
  pub rises : fired st b ≤ fired (state_after net caps st calls) b
  pub firings : IsUndisturbed net (fired st) st.handed (state_after net caps st calls).handed b

pub record IsRight (net : Network) (caps : Capacities) (st : State) : Type 0 where
  pub sound : Sound net caps st
  -- each sink holds a beginning of its stream
  pub begins : (b : ℕ) → is_keeper (role_at net b) ≡ true → fired st b ≤ length (input (entering net st.handed b) 0)
  -- and this stays, as does all else that is committed
  pub stays : (calls : List Call) (b : ℕ) → b < length net.nodes → RunStays net caps st calls b
  -- where all blocks are done, the sinks hold their whole streams
  pub whole : is_all_done st ≡ true → IsWhole net st
  -- and they are done where capacities are enough for a balance, all tapes are closed and no block can act
  pub rests : (q : List ℕ) → HasCapacities net q caps → AreClosed net st → is_quiet net caps st ≡ true → is_all_done st
      ≡ true

-- the headline: after any calls, however long tapes may come to be
abbrev pub RunsAreRight : Type 0
RunsAreRight =
    (net : Network) (caps : Capacities) (longest : ℕ) → CanRun net → (calls : List Call) →
    IsRight net caps (state_after net caps (opening_within longest net) calls)
