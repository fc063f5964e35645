use Rattle.std.proofs.Common.{◌≡◌, map}
use Rattle.stream_model.specs.Firings.{takes}
use Rattle.stream_model.specs.Lists.{below}
use Rattle.stream_model.specs.Network.{node_at}
use Rattle.flowgraph.specs.Flowgraph.{net_of}
use Rattle.kinds.specs.Kind.{meaning_of}
use Rattle.magbelu_c.proofs.block_rates.takes_of.Given as goal

abbrev pub invariant-loop-port : goal.invariant-loop-port
invariant-loop-port l = l.rows.items ≡ map (takes (node_at (net_of meaning_of l.graph) l.block.0)) (below l.port)
