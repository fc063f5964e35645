-- Counts stay small in a valid graph, where tapes are no longer than its gain allows.
use Rattle.std.specs.Prelude.{ℕ, ◌*◌, ◌^◌, ◌<◌, List, length}
use Rattle.stream_model.specs.Network.{Network, State, node_at, writers_of, taken_by, given_by, opening_within}
use Rattle.stream_model.specs.Machine.{Capacities, Call}
use Rattle.graph_model.specs.Graphs.{IsValidGraph}
use Rattle.graph_model.specs.Gains.{IsWithinGain, AreWithinGain}
use Rattle.stream_laws.specs.CanRun.{CanRun}
use Rattle.machine_laws.specs.Runs.{state_after}
use Rattle.machine_laws.specs.Sound.{reached, Sound}

-- the firings of block b that are committed or claimed, one by one, the items that they give, and those that they take
-- on each input
pub record IsSmall (net : Network) (st : State) (b : ℕ) : Type 0 where
  pub firings : (node_at net b).multiple * reached st b < 2 ^ 62
  pub given : given_by (node_at net b) (reached st b) < 2 ^ 62
  pub taken : (p : ℕ) → p < length (writers_of net b) → taken_by (node_at net b) p (reached st b) < 2 ^ 62

abbrev pub CountsAreSmall : Type 0
CountsAreSmall =
    (names : List (List ℕ)) (net : Network) (caps : Capacities) (st : State) → CanRun net → IsValidGraph names net →
    AreWithinGain net st.handed → Sound net caps st → (b : ℕ) → b < length net.nodes → IsSmall net st b

-- and so they do after any calls, where tapes may come to be as long as fits the graph
abbrev pub CountsStaySmall : Type 0
CountsStaySmall =
    (names : List (List ℕ)) (net : Network) (caps : Capacities) (longest : ℕ) → CanRun net → IsValidGraph names net
    → IsWithinGain net longest →
    (calls : List Call) (b : ℕ) → b < length net.nodes → IsSmall net
    (state_after net caps (opening_within longest net) calls) b
