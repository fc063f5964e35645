use Rattle.std.proofs.Common.{◌≡◌, ℕ, ◌+◌, ◌*◌, ◌/◌, ◌%◌, ◌<◌, length, map}
use Rattle.stream_model.specs.Lists.{item}
use Rattle.kind_model.specs.Rates.{from_place}
use Rattle.rate_blocks.proofs.permute.FramesLaneWork.make.Given as goal

abbrev pub invariant-loop-k : goal.invariant-loop-k
invariant-loop-k g l =
    (j : ℕ) → j < l.k * length l.self.order.now → item (map g.T.Number.number l.out) j
    ≡ item (map g.T.Number.number l.items) (j / length l.self.order.now * length l.self.order.now + from_place l.self.order.now (j % length l.self.order.now))
