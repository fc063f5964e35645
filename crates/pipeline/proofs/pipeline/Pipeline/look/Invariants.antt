use Rattle.std.proofs.Common.{◌≡◌}
use Rattle.pipeline.proofs.pipeline.Pipeline.look.Given as goal

abbrev pub invariant-loop-block : goal.invariant-loop-block
invariant-loop-block g l = record {
  plant : l.self.plant ≡ l.fn.self.plant;
  ends : l.self.ends.items ≡ l.fn.self.ends.items;
}
