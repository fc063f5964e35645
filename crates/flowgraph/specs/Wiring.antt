-- How the blocks of a network are wired, as tables that answer without a search.
use Rattle.std.specs.Prelude.{ℕ, ◌≡◌, ◌<◌, ◌+◌, ◌*◌, List, map, length, All, Some, slice_get}
use Rattle.std.specs.Option.{option_map}
use Rattle.stream_model.specs.Lists.{below}
use Rattle.stream_model.specs.Network as model
use Rattle.stream_model.specs.Network.{Network, writers_of, readers_of, used_outputs}
use Rattle.graph_model.specs.Graphs.{most_ports}
use Rattle.flowgraph.specs.declared.parts.Connection.{Connection}
use Rattle.flowgraph.specs.declared.parts.Input.{Input}
use Rattle.flowgraph.specs.Flowgraph.{connection_of}

-- an input is the reader of its number behind the output that it is connected to
abbrev pub IsItsReader : Network → Input → Type 0
IsItsReader net i = slice_get (readers_of net i.connection.from.0 i.connection.out_port) i.reader
    ≡ Some (connection_of i.connection)

-- the connections to inputs, as the model has them
abbrev pub writers_in : List Input → List model.Connection
writers_in is = map (λ i. connection_of i.connection) is

-- a row for each block's inputs, the number of each block's used outputs, and a row of readers for each port that an
-- output may have
pub record IsWired (net : Network) (inputs : List (List Input)) (outputs : List ℕ) (readers : List (List Connection)) :
    Type 0 where
  pub writers : map writers_in inputs ≡ map (writers_of net) (below (length net.nodes))
  pub readers_known : All (All (IsItsReader net)) inputs
  pub used : outputs ≡ map (used_outputs net) (below (length net.nodes))
  pub read :
      (b p : ℕ) → b < length net.nodes → p < used_outputs net b →
      option_map (map connection_of) (slice_get readers (most_ports * b + p)) ≡ Some (readers_of net b p)
