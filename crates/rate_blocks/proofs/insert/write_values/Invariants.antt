use Rattle.std.proofs.Common.{◌≡◌, ℕ, ◌<◌, map}
use Rattle.stream_model.specs.Lists.{item}
use Rattle.rate_blocks.proofs.insert.write_values.Given as goal

abbrev pub invariant-loop-k : goal.invariant-loop-k
invariant-loop-k g l = (j : ℕ) → j < l.k → item (map g.T.Number.number l.out) j ≡ item l.values j
