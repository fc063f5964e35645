-- The valid graph of a graph file.
use Rattle.std.specs.Prelude.{ℕ, List, [], slice_index_or, Option, Some, None, Result, Ok, Err}
use Rattle.graph_model.specs.Graphs.{graph_fault}
use Rattle.flowgraph.specs.declared.fault.Limit.TheVariants.{Blocks}
use Rattle.flowgraph.specs.declared.fault.GraphFault.{GraphFault}
use Rattle.flowgraph.specs.declared.fault.GraphFault.TheVariants.{PortGap, Loop, TooFewPorts, OneToOne, Gain}
use Rattle.flowgraph.specs.declared.parts.BlockId.{BlockId}
use Rattle.flowgraph.specs.Fault.{told}
use Rattle.graph_file.specs.declared.fault.FilePlace.TheVariants.{Top}
use Rattle.graph_file.specs.Refusals.{Refusal, of_graph, short}
use Rattle.graph_file.specs.Blocks.{Draft}

-- the block that a refusal of a whole graph names
abbrev pub named_block : GraphFault → Option BlockId
named_block (PortGap b side port) = Some b
named_block (TooFewPorts b) = Some b
named_block (OneToOne b) = Some b
named_block (Loop b) = Some b
named_block (Gain b) = Some b
named_block _ = None

abbrev pub name_at : List (List ℕ) → Option BlockId → List ℕ
name_at names None = []
name_at names (Some b) = slice_index_or names b.0 []

-- a graph, unless something is wrong with it as a whole
abbrev pub unless_wrong : Draft → Option GraphFault → Result Draft Refusal
unless_wrong d None = Ok d
unless_wrong d (Some fault) = Err (of_graph Top fault (short (name_at d.names (named_block fault))))

-- a valid graph, or what is wrong with it
abbrev pub validated : Draft → Result Draft Refusal
validated d = unless_wrong d (told Blocks (graph_fault d.net))
