use Rattle.flowgraph.specs.Flowgraph.{net_of}
use Rattle.slices.proofs.Turning.{IsTurning}
use Rattle.slices.proofs.first_firings.turn.Given as goal

abbrev pub invariant-loop-connection : goal.invariant-loop-connection
invariant-loop-connection g l = IsTurning (net_of g.B.Block.meaning l.graph) l.reaches l.fn.first l.first l.risen l.connection-index
