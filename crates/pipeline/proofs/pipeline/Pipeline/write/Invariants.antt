use Rattle.std.proofs.Common.{◌≡◌, ℕ, ◌<◌}
use Rattle.flowgraph.specs.Flowgraph.{net_of}
use Rattle.pipeline.specs.Pipeline.{GoesOn, IsDelivered, end_at}
use Rattle.pipeline.proofs.pipeline.Pipeline.write.Given as goal

abbrev pub invariant-loop-block : goal.invariant-loop-block
invariant-loop-block g l = record {
  goes : GoesOn g.R.Read.remaining g.W.Write.contents (net_of g.B.Block.meaning l.fn.self.plant.plant.graph) l.fn.self.plant l.self.plant l.fn.self.ends.items l.self.ends.items;
  same : l.self.plant.plant ≡ l.fn.self.plant.plant;
  written : l.least ≡ 0 → (b : ℕ) → b < l.block → IsDelivered l.self.plant b (end_at l.self.ends.items b);
}
