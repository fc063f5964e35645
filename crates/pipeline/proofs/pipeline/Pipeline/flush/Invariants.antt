use Rattle.std.proofs.Common.{◌≡◌}
use Rattle.flowgraph.specs.Flowgraph.{net_of}
use Rattle.pipeline.specs.Pipeline.{AreDelivered, GoesOn}
use Rattle.pipeline.proofs.pipeline.Pipeline.flush.Given as goal

abbrev pub invariant-loop-block : goal.invariant-loop-block
invariant-loop-block g l = record {
  goes : GoesOn g.R.Read.remaining g.W.Write.contents (net_of g.B.Block.meaning l.fn.self.plant.plant.graph) l.fn.self.plant l.self.plant l.fn.self.ends.items l.self.ends.items;
  same : l.self.plant ≡ l.fn.self.plant;
  written : AreDelivered (net_of g.B.Block.meaning l.fn.self.plant.plant.graph) l.fn.self.plant l.fn.self.ends.items → AreDelivered (net_of g.B.Block.meaning l.self.plant.plant.graph) l.self.plant l.self.ends.items;
}
