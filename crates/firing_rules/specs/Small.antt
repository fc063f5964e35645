-- What sums and products of counts rest on.
use Rattle.std.specs.Prelude.{ℕ, ◌≡◌, ◌*◌, ◌^◌, ◌<◌, ◌≤◌, List, length, All}
use Rattle.stream_model.specs.Network.{Network, Progress, node_at, writers_of, taken_by, given_by, progress_at}
use Rattle.graph_model.specs.Gains.{most_grown}
use Rattle.stream_laws.specs.CanRun.{CanRun}
use Rattle.flowgraph.specs.declared.parts.Connection.{Connection}
use Rattle.firing_rules.specs.declared.progress.Tape.{Tape}

-- the firings that block b has committed, the items that they give, and those that they take
pub record IsSmall (net : Network) (b k : ℕ) : Type 0 where
  pub firings : (node_at net b).multiple * k < 2 ^ 62
  pub given : given_by (node_at net b) k < 2 ^ 62
  pub taken : (p : ℕ) → p < length (writers_of net b) → taken_by (node_at net b) p k < 2 ^ 62

-- tapes and progress of each block, within what their types hold
pub record AreSmall (net : Network) (tapes : List Tape) (ps : List Progress) : Type 0 where
  pub runs : CanRun net
  pub blocks : length ps ≡ length net.nodes
  pub taped : length tapes ≡ length net.nodes
  pub short : All (λ t. t.length ≤ most_grown) tapes
  pub small : (b : ℕ) → b < length net.nodes → IsSmall net b (progress_at ps b).firings

-- a connection leads to an input that there is
pub record IsReader (net : Network) (c : Connection) : Type 0 where
  pub block : c.to.0 < length net.nodes
  pub port : c.in_port < length (writers_of net c.to.0)
