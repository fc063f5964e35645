-- When two graphs are the same.
use Rattle.std.specs.Prelude.{Bool, true, false, ◌==◌, ◌&&◌, bytes_eq}
use Rattle.std.specs.Cmp.Lexicographic.{pointwise}
use Rattle.stream_model.specs.declared.vocabulary.Policy.{Policy}
use Rattle.stream_model.specs.declared.vocabulary.Policy.TheVariants.{None, All, One}
use Rattle.flowgraph.specs.declared.parts.Connection.{Connection}
use Rattle.flowgraph.specs.declared.parts.Entry.{Entry}
use Rattle.flowgraph.specs.declared.parts.Options.{Options}
use Rattle.flowgraph.specs.Flowgraph.{Flowgraph}

abbrev pub policies_agree : Policy → Policy → Bool
policies_agree None None = true
policies_agree All All = true
policies_agree One One = true
policies_agree _ _ = false

abbrev pub options_agree : Options → Options → Bool
options_agree o p = policies_agree o.policy p.policy && (o.multiple == p.multiple && o.capacity == p.capacity)

-- two blocks are equal by a test, and their options are the same
abbrev pub entries_agree : {B : Type 0} → (B → B → Bool) → Entry B → Entry B → Bool
entries_agree eq d e = eq d.block e.block && options_agree d.options e.options

abbrev pub connections_agree : Connection → Connection → Bool
connections_agree c d = c.from.0 == d.from.0 && (c.out_port == d.out_port &&
    (c.to.0 == d.to.0 && c.in_port == d.in_port))

-- two graphs have the same names, blocks that are equal by a test, the same options and the same connections, all in
-- one order
abbrev pub graphs_agree : {B : Type 0} → (B → B → Bool) → Flowgraph B → Flowgraph B → Bool
graphs_agree eq g h = pointwise bytes_eq g.names h.names && pointwise (entries_agree eq) g.blocks h.blocks && pointwise
    connections_agree g.connections h.connections
