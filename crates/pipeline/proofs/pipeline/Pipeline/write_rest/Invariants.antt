use Rattle.std.proofs.Common.{◌≡◌}
use Rattle.pipeline.specs.Runs.{GoesFrom}
use Rattle.pipeline.proofs.pipeline.Pipeline.write_rest.Given as goal

abbrev pub invariant-loop-looks : goal.invariant-loop-looks
invariant-loop-looks g l = record {
  goes : GoesFrom g.R.Read.remaining g.W.Write.contents g.B.Block.meaning l.fn.self l.self;
  same : l.self.plant.plant ≡ l.fn.self.plant.plant;
}
