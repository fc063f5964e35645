use Rattle.std.proofs.Common.{◌≡◌, ◌<◌, ℕ, [], false, None}
use Rattle.flowgraph.specs.Flowgraph.{net_of, graph_of}
use Rattle.graph_model.specs.Graphs.{gap_fault}
use Rattle.flowgraph.proofs.PortTests.{few_at, unequal_at}
use Rattle.flowgraph.proofs.port_tests.port_fault.Given as goal

abbrev pub invariant-gaps : goal.invariant-gaps
invariant-gaps g l = (k : ℕ) → k < l.block → gap_fault (net_of g.B.Block.meaning (graph_of [] l.blocks l.connections)) k ≡ None

abbrev pub invariant-few : goal.invariant-few
invariant-few g l = (k : ℕ) → k < l.block → few_at (net_of g.B.Block.meaning (graph_of [] l.blocks l.connections)) k ≡ false

abbrev pub invariant-unequal : goal.invariant-unequal
invariant-unequal g l = (k : ℕ) → k < l.block → unequal_at (net_of g.B.Block.meaning (graph_of [] l.blocks l.connections)) k ≡ false
