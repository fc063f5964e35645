use Rattle.std.proofs.Common.{◌≡◌, ℕ, ◌<◌, map}
use Rattle.stream_model.specs.Lists.{item}
use Rattle.kind_model.specs.Rates.{from_place}
use Rattle.rate_blocks.proofs.permute.reorder.Given as goal

abbrev pub invariant-loop-j : goal.invariant-loop-j
invariant-loop-j g l = (i : ℕ) → i < l.j → item (map g.T.Number.number l.out) i ≡ item (map g.T.Number.number l.items) (from_place l.order i)
