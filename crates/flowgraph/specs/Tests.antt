-- The tests of a graph, one after another.
use Rattle.std.specs.Prelude.{ℕ, List, [], ◌∷◌, map, length, Option, option_map, ◌&&◌, ◌||◌, not, ◌==◌}
use Rattle.stream_model.specs.Lists.{below}
use Rattle.stream_model.specs.Network.{Network, node_at}
use Rattle.graph_model.specs.Graphs.{In, Out, ports_to, has_few, is_one, lowest, gap_fault, first_fault, GraphFault, PortGap, TooFewPorts, OneToOne}
use Rattle.flowgraph.specs.declared.ports.Ports.{Ports}

-- what is refused of the ports of all blocks: gaps, too few, and tags from one to one where they are not equally many
abbrev pub port_faults : Network → List (Option GraphFault)
port_faults net =
    first_fault (map (gap_fault net) (below (length net.nodes)))
    ∷ lowest net (λ b. has_few net b In || has_few net b Out) TooFewPorts
    ∷ lowest net (λ b. is_one (node_at net b).policy && not (ports_to net b In == ports_to net b Out)) OneToOne
    ∷ []

-- the gap of a block with these ports
abbrev pub gap_in : ℕ → Ports → Ports → Option GraphFault
gap_in b inputs outputs = first_fault (option_map (PortGap b In) inputs.gap ∷ option_map (PortGap b Out)
    outputs.gap ∷ [])
