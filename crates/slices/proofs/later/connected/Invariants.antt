use Rattle.std.proofs.Common.{◌≡◌, ◌++◌, take}
use Rattle.slices.proofs.later.connected.Given as goal

abbrev pub invariant-loop-connection : goal.invariant-loop-connection
invariant-loop-connection g l = (l.joined.blocks ≡ l.fn.made.blocks) × (l.joined.connections ≡ l.fn.made.connections ++ take l.connection-index l.graph.connections)
