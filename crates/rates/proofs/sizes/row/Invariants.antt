use Rattle.std.proofs.Common.{◌≡◌, map}
use Rattle.stream_model.specs.Lists.{below}
use Rattle.graph_model.specs.Rates.{balance_of, capacity_of}
use Rattle.flowgraph.specs.Flowgraph.{net_of}
use Rattle.rates.proofs.sizes.row.Given as goal

abbrev pub invariant-loop-port : goal.invariant-loop-port
invariant-loop-port g l = l.row.items ≡ map (capacity_of (net_of g.B.Block.meaning l.graph) (balance_of (net_of g.B.Block.meaning l.graph)) l.block.0) (below l.port)
