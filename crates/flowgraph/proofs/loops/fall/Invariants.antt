use Rattle.std.proofs.Common.{◌≤◌, take, get_or}
use Rattle.std.specs.List.{All}
use Rattle.flowgraph.specs.declared.parts.Connection.{Connection}
use Rattle.flowgraph.proofs.loops.fall.Given as goal

abbrev pub invariant-loop-connection : goal.invariant-loop-connection
invariant-loop-connection l = All (λ (c : Connection). get_or l.ranks c.from.0 0 ≤ get_or l.ranks c.to.0 0) (take l.connection-index l.connections)
