-- A graph as text from which it is drawn.
use Rattle.std.specs.Prelude.{ℕ, List, [], ◌++◌, length, codes}
use Rattle.std.specs.List.{flat_map}
use Rattle.stream_model.specs.Lists.{below}
use Rattle.stream_model.specs.Machine.{Capacities}
use Rattle.graph_model.specs.Rates.{Balance, balance_of, capacities_of}
use Rattle.flowgraph.specs.Flowgraph.{Flowgraph, net_of}
use Rattle.kinds.specs.declared.kind.Kind.{Kind}
use Rattle.kinds.specs.Kind.{meaning_of}
use Rattle.drawings.specs.declared.drawing.Format.{Format}
use Rattle.drawings.specs.declared.drawing.Format.TheVariants.{Dot, Mermaid}
use Rattle.drawings.specs.Parts.{Box, Arrow, box_at, arrow_at}
use Rattle.drawings.specs.Dot as dot
use Rattle.drawings.specs.Mermaid as mermaid

-- what stands before the blocks: the picture goes from left to right
abbrev pub opening_text : Format → List ℕ
opening_text Dot = codes "digraph {\n  rankdir=LR;\n  node [shape=record];\n"
opening_text Mermaid = codes "flowchart LR\n"

-- what stands behind the connections
abbrev pub closing_text : Format → List ℕ
closing_text Dot = codes "}\n"
closing_text Mermaid = []

-- block n
abbrev pub block_text : Format → ℕ → Box → List ℕ
block_text Dot n b = dot.block_text b
block_text Mermaid n b = mermaid.block_text n b

-- connection n
abbrev pub connection_text : Format → ℕ → Arrow → List ℕ
connection_text Dot n a = dot.connection_text a
connection_text Mermaid n a = mermaid.connection_text n a

-- the blocks, in their order
abbrev pub blocks_text : Format → Flowgraph Kind → Balance → List ℕ
blocks_text f g rates = flat_map (λ n. block_text f n (box_at g rates n)) (below (length g.blocks))

-- the connections, in the order of connecting
abbrev pub connections_text : Format → Flowgraph Kind → Capacities → List ℕ
connections_text f g caps = flat_map (λ n. connection_text f n (arrow_at g caps n)) (below (length g.connections))

-- a graph with these rates, and the capacities that these ask for
abbrev pub text_with : Format → Flowgraph Kind → Balance → List ℕ
text_with f g rates = opening_text f ++ blocks_text f g rates ++ connections_text f g
    (capacities_of (net_of meaning_of g) rates) ++ closing_text f

-- a graph with its own rates
abbrev pub drawn_text : Format → Flowgraph Kind → List ℕ
drawn_text f g = text_with f g (balance_of (net_of meaning_of g))
