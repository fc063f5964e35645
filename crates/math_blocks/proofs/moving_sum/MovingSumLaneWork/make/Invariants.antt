use Rattle.std.proofs.Common.{◌≡◌, ℕ, ◌+◌, ◌<◌, map, take, drop}
use Rattle.stream_model.specs.Numbers.{wrap, total}
use Rattle.stream_model.specs.Lists.{item, sum_below}
use Rattle.math_blocks.proofs.moving_sum.MovingSumLaneWork.make.Given as goal

abbrev pub invariant-loop-k : goal.invariant-loop-k
invariant-loop-k g l = record {
  sum : l.sum ≡ total (take l.past (drop l.k (map g.T.Number.number l.items)));
  written : (k : ℕ) → k < l.k → item (map g.T.Number.number l.out) k ≡ wrap g.T.Number.kind (sum_below l.self.length (λ j. item (map g.T.Number.number l.items) (k + j)));
}
