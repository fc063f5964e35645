-- Graphs that are built block by block and connection by connection.
use Rattle.std.specs.Prelude.{◌≡◌, ℕ, List, [], ◌∷◌, ◌++◌, None}
use Rattle.stream_model.specs.Network.{Node, Connection, Network}
use Rattle.graph_model.specs.Graphs.{IsGraph, add_fault, connect_fault}

abbrev pub empty : Network
empty = record { nodes = []; connections = [] }

-- a network with one block more, and with one connection more: each comes behind those before it
abbrev pub with_block : Network → Node → Network
with_block net n = record { nodes = net.nodes ++ n ∷ []; connections = net.connections }

abbrev pub with_connection : Network → Connection → Network
with_connection net c = record { nodes = net.nodes; connections = net.connections ++ c ∷ [] }

-- the empty graph is in order, and what adding and connecting do not refuse leaves a graph so
pub record BuildingKeeps : Type 0 where
  pub empty_is : IsGraph [] empty
  pub adding : (names : List (List ℕ)) (net : Network) (name : List ℕ) (n : Node) → IsGraph names net
      → add_fault names net name n ≡ None → IsGraph (names ++ name ∷ []) (with_block net n)
  pub connecting : (names : List (List ℕ)) (net : Network) (c : Connection) → IsGraph names net → connect_fault net c
      ≡ None → IsGraph names (with_connection net c)
