use Rattle.std.proofs.Common.{◌≡◌, ℕ, ◌-◌, ◌*◌, ◌/◌, ◌%◌, ◌<◌, length, map}
use Rattle.stream_model.specs.Lists.{item}
use Rattle.kind_model.specs.Rates.{inserted}
use Rattle.rate_blocks.proofs.insert.PeriodsLaneWork.make.Given as goal

abbrev pub invariant-loop-k : goal.invariant-loop-k
invariant-loop-k g l =
    (j : ℕ) → j < l.k * l.self.period → item (map g.T.Number.number l.out) j
    ≡ inserted l.self.values.now l.self.offset (map g.T.Number.number l.items) (j / l.self.period * (l.self.period - length l.self.values.now)) (j % l.self.period)
