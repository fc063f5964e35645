-- How long tapes may be in a valid graph.
use Rattle.std.specs.Prelude.{ℕ, ◌^◌, ◌<◌, ◌≤◌, List, length}
use Rattle.stream_model.specs.Network.{Network, longest_tape}
use Rattle.graph_model.specs.Graphs.{IsValidGraph}
use Rattle.graph_model.specs.Gains.{IsWithinGain, longest_within_gain}
use Rattle.graph_laws.specs.Running.{AreLawful}

pub record FitsItsGain (net : Network) : Type 0 where
  -- a tape of the usual length fits any valid graph
  pub usual : IsWithinGain net longest_tape
  -- the longest by the graph's own gain fits
  pub longest : IsWithinGain net (longest_within_gain net)
  pub enough : 2 ^ 37 ≤ longest_within_gain net
  -- and no longer one does
  pub no_longer : 0 < length net.nodes → (n : ℕ) → IsWithinGain net n → n ≤ longest_within_gain net

abbrev pub ValidGraphsFit : Type 0
ValidGraphsFit = (names : List (List ℕ)) (net : Network) → IsValidGraph names net → AreLawful net → FitsItsGain net
