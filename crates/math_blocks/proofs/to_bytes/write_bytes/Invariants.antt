use Rattle.std.proofs.Common.{◌≡◌, ℕ, ◌<◌, pos, map}
use Rattle.stream_model.specs.Lists.{item}
use Rattle.math_blocks.proofs.to_bytes.write_bytes.Given as goal

abbrev pub invariant-loop-k : goal.invariant-loop-k
invariant-loop-k g l = (j : ℕ) → j < l.k → item (map pos l.out) j ≡ g.M.MakesByte.gives l.makes (item (map g.T.Number.number l.items) j)
