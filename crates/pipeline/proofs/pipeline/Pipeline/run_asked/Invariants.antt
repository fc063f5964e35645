use Rattle.std.specs.Prelude.{None}
use Rattle.flowgraph.specs.Flowgraph.{net_of}
use Rattle.pipeline.specs.Requests.{GoesOnAsked}
use Rattle.pipeline.proofs.pipeline.Pipeline.run_asked.Given as goal

-- what was asked so far was answered, and nobody asked to stop
abbrev pub invariant-loop-turns : goal.invariant-loop-turns
invariant-loop-turns g l = GoesOnAsked g.R.Read.remaining g.W.Write.contents g.C.Requests.asked g.C.Requests.answered (net_of g.B.Block.meaning l.fn.self.plant.plant.graph) None l.fn.requests l.requests l.fn.self.plant l.self.plant l.fn.self.ends.items l.self.ends.items
