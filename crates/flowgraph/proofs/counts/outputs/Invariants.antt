use Rattle.flowgraph.proofs.CountLemmas.{AreCounts, used_to}
use Rattle.flowgraph.proofs.counts.outputs.Given as goal

abbrev pub invariant-loop-connection : goal.invariant-loop-connection
invariant-loop-connection l = AreCounts l.blocks (used_to l.connections l.connection-index) l.counts.items
