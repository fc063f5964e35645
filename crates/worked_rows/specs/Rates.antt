-- Words of the worked rows: small networks.
use Rattle.std.specs.Prelude.{ℕ, zero, suc, ◌-◌, ℤ, List, [], ◌∷◌, length, map}
use Rattle.stream_model.specs.declared.vocabulary.ItemType.TheVariants.{Byte}
use Rattle.stream_model.specs.declared.vocabulary.Policy.TheVariants as policies
use Rattle.stream_model.specs.Lists.{below}
use Rattle.stream_model.specs.Meaning.{Meaning}
use Rattle.stream_model.specs.Network.{Node, Connection, Network, State, opening}
use Rattle.stream_model.specs.Machine.{Capacities, Feed, Close, Read, Reply, next, run_of, step_of}
use Rattle.kind_model.specs.Ends.{vector_source, vector_sink}
use Rattle.kind_model.specs.Math.{add}
use Rattle.kind_model.specs.Rates.{keep_one_in_n}

-- a block whose outputs have this configured capacity
abbrev pub sized : ℕ → Meaning → Node
sized n m = record { meaning = m; policy = policies.All; multiple = 1; capacity = n }

-- a block with the default options
abbrev pub plain : Meaning → Node
plain m = sized 4096 m

-- a source and a sink of bytes
abbrev pub source : Node
source = plain (vector_source Byte)

abbrev pub sink : Node
sink = plain (vector_sink Byte)

-- from output 0 of one block to an input of another, and to its input 0
abbrev pub into : ℕ → ℕ → ℕ → Connection
into from to p = record { from = from; out_port = 0; to = to; in_port = p }

abbrev pub link : ℕ → ℕ → Connection
link from to = into from to 0

-- blocks in a row, each connected to the next
abbrev pub chain : List Node → Network
chain ns = record { nodes = ns; connections = map (λ b. link b (suc b)) (below (length ns - 1)) }

-- a source, a block and a sink
abbrev pub around : Meaning → Network
around m = chain (source ∷ plain m ∷ sink ∷ [])

-- a source whose stream is joined with what a block makes of it: the source, the join, the block, the sink
abbrev pub joined : Node → Meaning → Node → Network
joined from join n = record {
  nodes = from ∷ plain join ∷ n ∷ sink ∷ [];
  connections = into 0 1 0 ∷ link 0 2 ∷ into 2 1
      1 ∷ link 1 3 ∷ [];
}

-- a source joined with every second item of itself, which has no balance, and beside it these two blocks in a row
-- behind the source: the source, the join, the thinning, the two, and their sinks
abbrev pub uneven_beside : Meaning → Meaning → Network
uneven_beside a b =
    record {
      nodes = source ∷ plain (add Byte) ∷ plain (keep_one_in_n Byte 2) ∷ sink ∷ plain a ∷ plain b ∷ sink ∷ [];
      connections = into 0 1 0 ∷ link 0 2 ∷ into 2 1 1 ∷ link 1 3 ∷ link 0 4 ∷ link 4 5 ∷ link 5 6 ∷ [];
    }

-- a source before two blocks side by side, each before a sink
abbrev pub beside : Meaning → Meaning → Network
beside a b = record {
  nodes = source ∷ plain a ∷ plain b ∷ sink ∷ sink ∷ [];
  connections = link 0 1 ∷ link 0 2 ∷ link 1
      3 ∷ link 2 4 ∷ [];
}

-- each block in order steps with at most 1,024 firings, again and again: so many rounds
abbrev pub stepped : Network → Capacities → List ℕ → State → State
stepped net caps [] st = st
stepped net caps (b ∷ bs) st = stepped net caps bs (step_of net caps st b 1024).1

abbrev pub rounds : ℕ → Network → Capacities → State → State
rounds zero net caps st = st
rounds (suc more) net caps st = rounds more net caps (stepped net caps (below (length net.nodes)) st)

-- these bytes are fed to block 0 from the opening on, and it is closed
abbrev pub fed_bytes : Network → Capacities → List ℤ → State
fed_bytes net caps xs = (run_of net caps (opening net) (Feed 0 Byte xs [] ∷ Close 0 ∷ [])).1

-- what a sink shows at the end
abbrev pub shown : Network → Capacities → ℕ → List ℤ → ℕ → Reply
shown net caps turns xs b = (next net caps (rounds turns net caps (fed_bytes net caps xs)) (Read b 0 1024)).0
