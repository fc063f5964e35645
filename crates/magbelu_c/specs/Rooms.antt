-- How many items the buffers of a held graph have room for.
use Rattle.std.specs.Prelude.{◌≡◌, ℕ, List, length, map}
use Rattle.stream_model.specs.Machine.{Capacities, capacity_at}
use Rattle.graph_model.specs.Rates.{balance_of, capacities_of}
use Rattle.flowgraph.specs.Flowgraph.{Flowgraph, net_of}
use Rattle.flowgraph.specs.declared.parts.Connection.{Connection}
use Rattle.kinds.specs.declared.kind.Kind.{Kind}
use Rattle.kinds.specs.Kind.{meaning_of}
use Rattle.magbelu_c.specs.declared.reply.Reply.{Reply}
use Rattle.magbelu_c.specs.CallAnswers.{shown}
use Rattle.magbelu_c.specs.Replies.{done, no_memory}

-- the buffer behind a connection is that of the output that it comes from
abbrev pub room_on : Capacities → Connection → ℕ
room_on caps c = capacity_at caps c.from.0 c.out_port

-- of each connection, with the capacities that a plant of the graph is opened with
abbrev pub rooms_of : Flowgraph Kind → List ℕ
rooms_of g =
    let net = net_of meaning_of g in
    map (room_on (capacities_of net (balance_of net))) g.connections

-- the rooms are told, and how many they are; or memory ran out, and nothing is written
pub data Rooms (g : Flowgraph Kind) (rooms rooms' : List ℕ) (r : Reply) : Type 0 where
  RoomsTold : rooms' ≡ shown (rooms_of g) rooms → r ≡ done 0 (length g.connections) → Rooms g rooms rooms' r
  RoomsNotTold : rooms' ≡ rooms → r ≡ no_memory → Rooms g rooms rooms' r
