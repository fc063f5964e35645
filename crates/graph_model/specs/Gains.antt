-- How long tapes may be in a graph: the gains along a path multiply what a tape holds, and no count is to pass what
-- code can hold.
use Rattle.std.specs.Prelude.{◌≡◌, ℕ, ◌*◌, ◌/◌, ◌^◌, ◌<◌, ◌≤◌, List, ◌∷◌, length, map, true}
use Rattle.stream_model.specs.Lists.{below}
use Rattle.stream_model.specs.Network.{Connection, Network, Handed, role_at, handed_at, is_source}
use Rattle.graph_model.specs.Rates.{greatest_of}
use Rattle.graph_model.specs.Graphs.{IsWalk, gain_along, gain_by}

-- the most items that the gains along a path may make of a tape
abbrev pub most_grown : ℕ
most_grown = 2 ^ 61

-- no path makes more of a tape of n items
abbrev pub IsWithinGain : Network → ℕ → Type 0
IsWithinGain net n = (a b : ℕ) (cs : List Connection) → a < length net.nodes → IsWalk net a b cs
    → gain_along net a cs * n ≤ most_grown

-- nor of what the tape of a source may come to hold
abbrev pub AreWithinGain : Network → List Handed → Type 0
AreWithinGain net hs = (b : ℕ) → b < length net.nodes → is_source (role_at net b) ≡ true
    → IsWithinGain net (handed_at hs b).longest

-- the greatest product of gains along a path, which is 1 where no block gives more items than it takes
abbrev pub greatest_gain : Network → ℕ
greatest_gain net = greatest_of (1 ∷ map (gain_by (length net.nodes) net) (below (length net.nodes)))

-- the longest tape of which no path makes more
abbrev pub longest_within_gain : Network → ℕ
longest_within_gain net = most_grown / greatest_gain net
