-- The tables of the first blocks of a graph.
use Rattle.std.specs.Prelude.{ℕ, ◌≡◌, ◌+◌, ◌*◌, ◌<◌, ◌==◌, ◌&&◌, List, [], ◌++◌, length, map, filter, slice_index_or, All}
use Rattle.std.specs.List.{flat_map}
use Rattle.stream_model.specs.Lists.{below}
use Rattle.stream_model.specs.Network as model
use Rattle.stream_model.specs.Network.{writers_of, readers_of, used_outputs}
use Rattle.graph_model.specs.Graphs.{most_ports}
use Rattle.flowgraph.specs.declared.fault.Side.{Side}
use Rattle.flowgraph.specs.declared.parts.Connection.{Connection}
use Rattle.flowgraph.specs.declared.parts.Input.{Input}
use Rattle.flowgraph.specs.Flowgraph.{connection_of}
use Rattle.flowgraph.specs.Ports.{net_from, block_at, port_at}
use Rattle.flowgraph.specs.Wiring.{writers_in, IsItsReader}

-- the readers of all ports of n blocks, 16 for each, and of the first ports of the next block
abbrev pub readers_to : List Connection → ℕ → ℕ → List (List model.Connection)
readers_to cs n ports = flat_map (λ b. map (readers_of (net_from cs) b) (below 16)) (below n)
    ++ map (readers_of (net_from cs) n) (below ports)

pub record AreTables (n : ℕ) (cs : List Connection) (inputs : List (List Input)) (outputs : List ℕ)
    (readers : List (List Connection)) : Type 0 where
  pub writers : map writers_in inputs ≡ map (writers_of (net_from cs)) (below n)
  pub known : All (All (IsItsReader (net_from cs))) inputs
  pub used : outputs ≡ map (used_outputs (net_from cs)) (below n)
  pub read : map (map connection_of) readers ≡ readers_to cs n 0

-- for each port that a side of n blocks may have a row: the connections that end there
pub record AreByPort (n : ℕ) (side : Side) (cs : List Connection) (rows : List (List Connection)) : Type 0 where
  pub count : length rows ≡ most_ports * n
  pub are : (b p : ℕ) → b < n → p < most_ports → slice_index_or rows (most_ports * b + p) []
      ≡ filter (λ c. block_at side c == b && port_at side c == p) cs
