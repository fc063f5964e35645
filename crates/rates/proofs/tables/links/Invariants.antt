use Rattle.std.proofs.Common.{◌≡◌, map, take}
use Rattle.flowgraph.specs.Flowgraph.{net_of}
use Rattle.rates.specs.Tables.{link_of}
use Rattle.rates.proofs.tables.links.Given as goal

abbrev pub invariant-loop-connection : goal.invariant-loop-connection
invariant-loop-connection g l = l.links.items ≡ map (link_of (net_of g.B.Block.meaning l.graph)) (take l.connection-index (net_of g.B.Block.meaning l.graph).connections)
