use Rattle.std.proofs.Common.{◌≡◌, ℕ, ◌+◌, ◌*◌, ◌/◌, ◌%◌, ◌<◌, map}
use Rattle.stream_model.specs.Lists.{item}
use Rattle.rate_blocks.proofs.keep_m_in_n.copy_kept.Given as goal

abbrev pub invariant-loop-k : goal.invariant-loop-k
invariant-loop-k g l =
    (j : ℕ) → j < l.k * l.kept.m → item (map g.T.Number.number l.out) j ≡ item (map g.T.Number.number l.items) (j / l.kept.m * l.kept.n + l.kept.offset + j % l.kept.m)
