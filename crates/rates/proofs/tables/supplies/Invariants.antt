use Rattle.std.proofs.Common.{◌≡◌, map, take}
use Rattle.flowgraph.specs.Flowgraph.{net_of}
use Rattle.rates.specs.Tables.{supply_of}
use Rattle.rates.proofs.tables.supplies.Given as goal

abbrev pub invariant-loop-block : goal.invariant-loop-block
invariant-loop-block g l = l.supplies.items ≡ map supply_of (take l.block (net_of g.B.Block.meaning l.graph).nodes)
