use Rattle.std.proofs.Common.{◌≡◌, ℕ, ◌+◌, ◌%◌, ◌<◌, pos, map}
use Rattle.stream_model.specs.Numbers.{wrap}
use Rattle.stream_model.specs.Lists.{item}
use Rattle.rate_blocks.proofs.counter.CountsLaneWork.make.Given as goal

abbrev pub invariant-loop-k : goal.invariant-loop-k
invariant-loop-k g l = record {
  count : l.count ≡ (l.self.first + l.k) % l.self.n;
  written : (j : ℕ) → j < l.k → item (map g.T.Number.number l.out) j ≡ wrap g.T.Number.kind (pos ((l.self.first + j) % l.self.n));
}
