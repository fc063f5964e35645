-- The blocks of a graph file.
use Rattle.std.specs.Prelude.{◌≡◌, ◌⊎◌, ℕ, true, List, [], ◌∷◌, ◌++◌, Option, Some, None, Result, Ok, Err, IsOk}
use Rattle.toml.specs.Data.{Members}
use Rattle.stream_model.specs.declared.vocabulary.Policy.{Policy}
use Rattle.stream_model.specs.declared.vocabulary.Policy.TheVariants.{All}
use Rattle.stream_model.specs.Meaning.{Meaning}
use Rattle.stream_model.specs.Network.{Network, Node}
use Rattle.graph_model.specs.Graphs as model
use Rattle.graph_model.specs.Graphs.{add_fault}
use Rattle.flowgraph.specs.declared.fault.Limit.TheVariants.{Blocks}
use Rattle.flowgraph.specs.Fault.{reported}
use Rattle.flowgraph.specs.Flowgraph.{Flowgraph, net_of}
use Rattle.kinds.specs.declared.kind.Kind.{Kind}
use Rattle.kinds.specs.Kind.{meaning_of}
use Rattle.kind_schema.specs.declared.key.Key.TheVariants as keys
use Rattle.kind_schema.specs.declared.fault.KeyFault.{KeyFault}
use Rattle.kind_schema.specs.Tables.{at_key, string_in, text_at, small_at, policy_named}
use Rattle.kind_schema.specs.Reading.{block_in, takes_memory}
use Rattle.graph_file.specs.declared.fault.FilePlace.TheVariants as places
use Rattle.graph_file.specs.Refusals.{Refusal, at_table, of_graph, short}

-- a graph as it is built: the names of its blocks, and the network of what they mean
pub record Draft : Type 0 where
  pub names : List (List ℕ)
  pub net : Network

-- what is seen of a graph
abbrev pub drafted : Flowgraph Kind → Draft
drafted g = record { names = g.names; net = net_of meaning_of g }

-- which tags pass a block: all, where its table does not say
abbrev pub policy_or : Option Policy → Policy
policy_or None = All
policy_or (Some p) = p

-- the same, of the text at the key
abbrev pub policy_in : Option (List ℕ) → Policy
policy_in None = All
policy_in (Some text) = policy_or (policy_named text)

-- a block with the options of its table
abbrev pub node_at : Meaning → Members → Node
node_at m ms = record {
  meaning = m;
  policy = policy_in (string_in (at_key keys.Tags ms));
  multiple = small_at ms
      keys.Multiple;
  capacity = small_at ms keys.Capacity;
}

-- the graph with one block more
abbrev pub with_node : Draft → List ℕ → Node → Draft
with_node d name node = record {
  names = d.names ++ name ∷ [];
  net = record {
    nodes = d.net.nodes
        ++ node ∷ [];
    connections = d.net.connections;
  };
}

-- the graph with the block of table n, unless the block does not go into it
abbrev pub added : ℕ → Draft → List ℕ → Node → Option model.GraphFault → Result Draft Refusal
added n d name node None = Ok (with_node d name node)
added n d name node (Some fault) = Err (of_graph (places.Block n) (reported Blocks (Some fault)) (short name))

-- the same, where the table means a block
abbrev pub block_added : ℕ → Draft → Members → Result Meaning KeyFault → Result Draft Refusal
block_added n d ms (Err fault) = Err (at_table (places.Block n) fault)
block_added n d ms (Ok m) = added n d (text_at ms keys.Name) (node_at m ms)
    (add_fault d.names d.net (text_at ms keys.Name) (node_at m ms))

-- the graph with the block of table n
abbrev pub block_step : ℕ → Draft → Members → Result Draft Refusal
block_step n d ms = block_added n d ms (block_in ms)

-- the block of the table takes memory as it is made, or as it goes into the graph
abbrev pub BlockTakes : ℕ → Draft → Members → Type 0
BlockTakes n d ms = (takes_memory ms ≡ true) ⊎ IsOk (block_step n d ms)

-- what the tables of blocks mean so far, with that of table n
abbrev pub meaning_added : ℕ → List Meaning → Result Meaning KeyFault → Result (List Meaning) Refusal
meaning_added n means (Err fault) = Err (at_table (places.Block n) fault)
meaning_added n means (Ok m) = Ok (means ++ m ∷ [])

abbrev pub meaning_step : ℕ → List Meaning → Members → Result (List Meaning) Refusal
meaning_step n means ms = meaning_added n means (block_in ms)
