use Rattle.std.proofs.Common.{◌≡◌, ℕ, ◌<◌, false}
use Rattle.streaming.specs.Beside.{is_held}
use Rattle.pipeline.specs.Runs.{DeliveredAt, GoesFrom}
use Rattle.pipeline.proofs.pipeline.Pipeline.write_beside.Given as goal

abbrev pub invariant-loop-block : goal.invariant-loop-block
invariant-loop-block g l = record {
  goes : GoesFrom g.R.Read.remaining g.W.Write.contents g.B.Block.meaning l.fn.self l.self;
  same : l.self.plant.plant ≡ l.fn.self.plant.plant;
  held : l.self.full ≡ l.fn.self.full;
  written : l.least ≡ 0 → (b : ℕ) → b < l.block → is_held l.fn.self.full.items b ≡ false → DeliveredAt l.self b;
}
