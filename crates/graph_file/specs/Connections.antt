-- The connections of a graph file.
use Rattle.std.specs.Prelude.{ℕ, suc, ◌-◌, ◌^◌, min, ℤ, pos, negsuc, List, [], ◌∷◌, ◌++◌, Option, Some, None, Result, Ok, Err, IsOk, bytes_eq, if◌then◌else◌, Bool, true, false}
use Rattle.toml.specs.Data.{Items, no_items, item, Members, as_table}
use Rattle.stream_model.specs.Network as network
use Rattle.graph_model.specs.Graphs as model
use Rattle.graph_model.specs.Graphs.{connect_fault}
use Rattle.flowgraph.specs.declared.fault.GraphFault.{GraphFault}
use Rattle.flowgraph.specs.declared.fault.GraphFault.TheVariants.{UnknownBlock, PortRange}
use Rattle.flowgraph.specs.declared.fault.Side.{Side}
use Rattle.flowgraph.specs.declared.fault.Side.TheVariants.{In, Out}
use Rattle.flowgraph.specs.declared.fault.Limit.TheVariants.{Connections}
use Rattle.flowgraph.specs.Fault.{reported}
use Rattle.kind_schema.specs.declared.key.Key.{Key}
use Rattle.kind_schema.specs.declared.key.Key.TheVariants as keys
use Rattle.kind_schema.specs.declared.fault.KeyFault.{KeyFault}
use Rattle.kind_schema.specs.declared.fault.KeyFault.TheVariants.{UnknownKey}
use Rattle.kind_schema.specs.Tables.{text_at, number_at, count_at, keys_fault, has_only}
use Rattle.graph_file.specs.declared.fault.FilePlace.TheVariants as places
use Rattle.graph_file.specs.Refusals.{Refusal, of_graph, negative_port, short, block_name}
use Rattle.graph_file.specs.Blocks.{Draft}
use Rattle.graph_file.specs.Steps.{unless}

-- the name in the table of a block
abbrev pub name_in : Option Members → List ℕ
name_in None = []
name_in (Some ms) = text_at ms keys.Name

-- the number of the first block of a name, counted from n
abbrev pub number_from : ℕ → List ℕ → Items → Option ℕ
number_from n name no_items = None
number_from n name (item d ds) = if bytes_eq (name_in (as_table d)) name then Some (min n (2 ^ 32 - 1)) else number_from
    (suc n) name ds

-- what follows, where a port of the connection of table n is not negative
abbrev pub from_zero : ℕ → ℤ → List ℕ → Side → Result Draft Refusal → Result Draft Refusal
from_zero n (pos port) end side rest = rest
from_zero n (negsuc port) end side rest = Err (negative_port (places.Connect n) (block_name end) side (negsuc port))

-- the graph with one connection more
abbrev pub with_connection : Draft → network.Connection → Draft
with_connection d c = record {
  names = d.names;
  net = record {
    nodes = d.net.nodes;
    connections = d.net.connections
        ++ c ∷ [];
  };
}

-- the name of the block that a refused connection names: that of the output only where the output is wrong
abbrev pub end_named : Members → GraphFault → List ℕ
end_named ms (PortRange b Out p) = text_at ms keys.From
end_named ms _ = text_at ms keys.To

-- the graph with the connection of table n, unless the connection does not go into it
abbrev pub connected : ℕ → Draft → Members → network.Connection → Option model.GraphFault → Result Draft Refusal
connected n d ms c None = Ok (with_connection d c)
connected n d ms c (Some fault) = Err (of_graph (places.Connect n) (reported Connections (Some fault))
    (short (end_named ms (reported Connections (Some fault)))))

-- what follows, where a block has the name
abbrev pub known : ℕ → Option ℕ → (ℕ → Result Draft Refusal) → Result Draft Refusal
known n None next = Err (of_graph (places.Connect n) UnknownBlock [])
known n (Some b) next = next b

-- the same, from block to block by the ports of the table
abbrev pub joined : ℕ → Draft → Members → ℕ → ℕ → Result Draft Refusal
joined n d ms from to =
    let c : network.Connection = record {
      from = from;
      out_port = count_at ms keys.FromPort;
      to = to;
      in_port = count_at
          ms keys.ToPort;
    } in
    connected n d ms c (connect_fault d.net c)

-- the keys up to the port of the output, and all keys
abbrev pub from_keys : List Key
from_keys = keys.From ∷ keys.To ∷ keys.FromPort ∷ []

abbrev pub connect_keys : List Key
connect_keys = keys.From ∷ keys.To ∷ keys.FromPort ∷ keys.ToPort ∷ []

-- what is wrong with the keys of a table that may have only these, up to the last of some
abbrev pub only_fault : Bool → Option KeyFault → Option KeyFault
only_fault true fault = fault
only_fault false fault = Some UnknownKey

-- the graph with the connection of table n
abbrev pub connect_step : Items → ℕ → Draft → Members → Result Draft Refusal
connect_step blocks n d ms =
    unless (places.Connect n) (only_fault (has_only connect_keys ms) (keys_fault ms from_keys))
    (from_zero n (number_at ms keys.FromPort) (text_at ms keys.From) Out
    (unless (places.Connect n) (keys_fault ms (keys.ToPort ∷ []))
    (from_zero n (number_at ms keys.ToPort) (text_at ms keys.To) In
    (known n (number_from 0 (text_at ms keys.From) blocks) (λ from. known n (number_from 0 (text_at ms keys.To) blocks)
    (λ to. joined n d ms from to))))))

-- the connection of the table takes memory as it goes into the graph
abbrev pub ConnectTakes : Items → ℕ → Draft → Members → Type 0
ConnectTakes blocks n d ms = IsOk (connect_step blocks n d ms)
