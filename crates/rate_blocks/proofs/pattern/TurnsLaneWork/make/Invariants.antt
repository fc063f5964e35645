use Rattle.std.proofs.Common.{◌≡◌, ℕ, ◌+◌, ◌%◌, ◌<◌, map, length}
use Rattle.stream_model.specs.Lists.{item}
use Rattle.rate_blocks.proofs.pattern.TurnsLaneWork.make.Given as goal

abbrev pub invariant-loop-k : goal.invariant-loop-k
invariant-loop-k g l = record {
  at : l.at ≡ (l.self.first + l.k) % length l.self.values.now;
  written : (j : ℕ) → j < l.k → item (map g.T.Number.number l.out) j ≡ item l.self.values.now ((l.self.first + j) % length l.self.values.now);
}
