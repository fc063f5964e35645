use Rattle.std.proofs.Common.{◌≡◌, ◌<◌, ℕ, false}
use Rattle.graph_model.specs.Graphs.{reaches_by}
use Rattle.flowgraph.specs.Ports.{net_from}
use Rattle.flowgraph.proofs.loops.loop_fault.Given as goal

abbrev pub invariant-loop-block : goal.invariant-loop-block
invariant-loop-block l = (k : ℕ) → k < l.block → reaches_by l.blocks (net_from l.connections) k k ≡ false
