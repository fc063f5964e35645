use Rattle.std.proofs.Common.{◌≡◌, ℕ, ◌<◌, map}
use Rattle.stream_model.specs.Lists.{item}
use Rattle.kind_model.specs.Rates.{frame}
use Rattle.rate_blocks.proofs.per_frame.PerFrameLaneWork.make.Given as goal

abbrev pub invariant-loop-k : goal.invariant-loop-k
invariant-loop-k g l = (j : ℕ) → j < l.k → item (map g.T.Number.number l.out) j ≡ g.M.MakesOne.gives g.T.Number.kind (frame l.n (map g.T.Number.number l.items) j)
