-- A balanced network with enough room does not stall.
use Rattle.std.specs.Prelude.{ℕ, ◌<◌, ◌≡◌, List, length, Some, true}
use Rattle.stream_model.specs.Network.{Network, State, handed_at, role_at, is_source}
use Rattle.stream_model.specs.Machine.{Capacities, is_quiet, is_all_done, IsWhole}
use Rattle.graph_model.specs.Rates.{IsBalanced, HasCapacities, Balanced, past_skips, capacities_of}
use Rattle.stream_laws.specs.CanRun.{CanRun}
use Rattle.machine_laws.specs.Sound.{Sound}

-- each source's tape is closed
abbrev pub AreClosed : Network → State → Type 0
AreClosed net st = (b : ℕ) → b < length net.nodes → is_source (role_at net b) ≡ true → (handed_at st.handed b).closed
    ≡ true

-- with enough room for a balance, and all tapes closed, the network comes to rest only where every block is done
abbrev pub QuietIsDone : Type 0
QuietIsDone =
    (net : Network) (q : List ℕ) (caps : Capacities) (st : State) → CanRun net → HasCapacities net q caps
    → Sound net caps st → AreClosed net st →
    is_quiet net caps st ≡ true → is_all_done st ≡ true

-- the capacities that are computed are enough: balanced, closed and quiet, each sink holds its whole stream
abbrev pub QuietIsWhole : Type 0
QuietIsWhole =
    (net : Network) (q : List ℕ) (j : ℕ) (st : State) → CanRun net → IsBalanced net q → past_skips net q ≡ Some j →
    Sound net (capacities_of net (Balanced q)) st → AreClosed net st → is_quiet net (capacities_of net (Balanced q)) st
    ≡ true → IsWhole net st
