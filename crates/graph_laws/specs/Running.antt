-- What a valid graph of lawful blocks keeps.
use Rattle.std.specs.Prelude.{ℕ, List, All}
use Rattle.stream_model.specs.Meaning.{IsLawful}
use Rattle.stream_model.specs.Network.{Node, Network}
use Rattle.stream_laws.specs.CanRun.{CanRun}
use Rattle.graph_model.specs.Rates.{CanCount}
use Rattle.graph_model.specs.Graphs.{IsValidGraph}

-- each block of the network keeps the laws
abbrev pub AreLawful : Network → Type 0
AreLawful net = All (λ (n : Node). IsLawful n.meaning) net.nodes

-- a valid graph of lawful blocks is what the laws of streams and of the machine ask for, and what the counts of its
-- rates do
abbrev pub ValidGraphsRun : Type 0
ValidGraphsRun = (names : List (List ℕ)) (net : Network) → IsValidGraph names net → AreLawful net → CanRun net
    × CanCount net
