-- What a contract sees of a situation: a block with all that a decision about it looks at.
use Rattle.std.specs.Prelude.{ℕ, List}
use Rattle.stream_model.specs.Meaning.{Meaning}
use Rattle.stream_model.specs.Network.{Network, Node, Progress, State, node_at}
use Rattle.stream_model.specs.Claims.{Counts}
use Rattle.stream_model.specs.Machine.{Capacities, counts_of}
use Rattle.flowgraph.specs.Flowgraph.{Flowgraph, net_of}
use Rattle.firing_rules.specs.declared.progress.Tape.{Tape}
use Rattle.firing_rules.specs.State.{lent}

pub record Seen (B : Type 0) : Type 0 where
  pub graph : Flowgraph B
  pub capacities : Capacities
  pub tapes : List Tape
  pub progress : List Progress
  pub block : ℕ

abbrev pub seen : {B : Type 0} → Flowgraph B → Capacities → List Tape → List Progress → ℕ → Seen B
seen graph capacities tapes progress block =
    record { graph = graph; capacities = capacities; tapes = tapes; progress = progress; block = block }

-- the network, where blocks have these meanings
abbrev pub net_seen : {B : Type 0} → (B → Meaning) → Seen B → Network
net_seen meaning s = net_of meaning s.graph

abbrev pub state_seen : {B : Type 0} → Seen B → State
state_seen s = lent s.tapes s.progress

abbrev pub node_seen : {B : Type 0} → (B → Meaning) → Seen B → Node
node_seen meaning s = node_at (net_seen meaning s) s.block

abbrev pub counts_seen : {B : Type 0} → (B → Meaning) → Seen B → Counts
counts_seen meaning s = counts_of (net_seen meaning s) s.capacities (state_seen s) s.block
