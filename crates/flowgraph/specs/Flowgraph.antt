-- What a contract sees of a graph, and the network that it is.
use Rattle.std.specs.Prelude.{ℕ, ◌≡◌, List, [], ◌∷◌, ◌++◌, map}
use Rattle.stream_model.specs.Meaning.{Meaning}
use Rattle.stream_model.specs.Network as model
use Rattle.stream_model.specs.Network.{Network, Node}
use Rattle.flowgraph.specs.declared.parts.BlockId.{BlockId}
use Rattle.flowgraph.specs.declared.parts.Connection.{Connection}
use Rattle.flowgraph.specs.declared.parts.Entry.{Entry}
use Rattle.flowgraph.specs.declared.parts.Options.{Options}

-- the blocks with their names, in the order in which they were added, and the connections in that of connecting
pub record Flowgraph (B : Type 0) : Type 0 where
  pub names : List (List ℕ)
  pub blocks : List (Entry B)
  pub connections : List Connection

abbrev pub graph_of : {B : Type 0} → List (List ℕ) → List (Entry B) → List Connection → Flowgraph B
graph_of names blocks connections = record { names = names; blocks = blocks; connections = connections }

-- a block with its options as a node of a network
abbrev pub node_of : {B : Type 0} → (B → Meaning) → Entry B → Node
node_of meaning e = record {
  meaning = meaning e.block;
  policy = e.options.policy;
  multiple = e.options.multiple;
  capacity = e.options.capacity;
}

abbrev pub connection_of : Connection → model.Connection
connection_of c = record { from = c.from.0; out_port = c.out_port; to = c.to.0; in_port = c.in_port }

-- the network of a graph whose blocks have these meanings
abbrev pub net_of : {B : Type 0} → (B → Meaning) → Flowgraph B → Network
net_of meaning g = record { nodes = map (node_of meaning) g.blocks; connections = map connection_of g.connections }

abbrev pub entry : {B : Type 0} → B → Options → Entry B
entry block options = record { block = block; options = options }

abbrev pub connection : BlockId → ℕ → BlockId → ℕ → Connection
connection from out_port to in_port = record { from = from; out_port = out_port; to = to; in_port = in_port }

-- a graph with one block more, and with one connection more
abbrev pub with_block : {B : Type 0} → Flowgraph B → List ℕ → Entry B → Flowgraph B
with_block g name e = graph_of (g.names ++ name ∷ []) (g.blocks ++ e ∷ []) g.connections

abbrev pub with_connection : {B : Type 0} → Flowgraph B → Connection → Flowgraph B
with_connection g c = graph_of g.names g.blocks (g.connections ++ c ∷ [])

-- a node has these options
pub record HasOptions (n : Node) (o : Options) : Type 0 where
  pub policy : n.policy ≡ o.policy
  pub multiple : n.multiple ≡ o.multiple
  pub capacity : n.capacity ≡ o.capacity
