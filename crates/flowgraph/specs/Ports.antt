-- The ports that connections use, as code keeps them.
use Rattle.std.specs.Prelude.{ℕ, ◌<◌, List, [], map, All}
use Rattle.stream_model.specs.Network.{Network}
use Rattle.graph_model.specs.Graphs as graphs
use Rattle.graph_model.specs.Graphs.{ports_to, gap_of, most_ports}
use Rattle.flowgraph.specs.declared.fault.Side.{Side}
use Rattle.flowgraph.specs.declared.fault.Side.TheVariants.{In, Out}
use Rattle.flowgraph.specs.declared.parts.Connection.{Connection}
use Rattle.flowgraph.specs.declared.ports.Ports.{Ports}
use Rattle.flowgraph.specs.Flowgraph.{connection_of}

abbrev pub model_side : Side → graphs.Side
model_side In = graphs.In
model_side Out = graphs.Out

-- a network of connections alone
abbrev pub net_from : List Connection → Network
net_from cs = record { nodes = []; connections = map connection_of cs }

-- the block and the port at an end of a connection
abbrev pub block_at : Side → Connection → ℕ
block_at In c = c.to.0
block_at Out c = c.from.0

abbrev pub port_at : Side → Connection → ℕ
port_at In c = c.in_port
port_at Out c = c.out_port

-- both ends of each connection are blocks below a number, and their ports below the greatest number of ports
abbrev pub AreWithin : ℕ → List Connection → Type 0
AreWithin n cs = All (λ c. (c.from.0 < n) × (c.to.0 < n) × (c.out_port < most_ports) × (c.in_port < most_ports)) cs

-- how many ports of a side of a block are used, and the lowest that is left out
abbrev pub ports_at : List Connection → Side → ℕ → Ports
ports_at cs s b = record { used = ports_to (net_from cs) b (model_side s); gap = gap_of (net_from cs) b (model_side s) }
