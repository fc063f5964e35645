use Rattle.std.proofs.Common.{◌≡◌, ℕ, ◌<◌, pos, map}
use Rattle.stream_model.specs.Lists.{item}
use Rattle.kind_model.specs.Math.{number_for}
use Rattle.math_blocks.proofs.table.write_numbers.Given as goal

abbrev pub invariant-loop-k : goal.invariant-loop-k
invariant-loop-k g l = (j : ℕ) → j < l.k → item (map g.T.Number.number l.out) j ≡ number_for (map g.T.Number.number l.values) (item (map pos l.items) j)
