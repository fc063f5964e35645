use Rattle.std.proofs.Common.{ℕ, ◌<◌, slice_index_or}
use Rattle.stream_model.specs.Numbers.{IsItem}
use Rattle.numbers.proofs.vectors.are_in_range.Given as goal

abbrev pub invariant-loop-x : goal.invariant-loop-x
invariant-loop-x g l = (k : ℕ) (d : g.row.T.Denot) → k < l.x-index → IsItem g.T.Number.kind (g.T.Number.number (slice_index_or l.numbers k d))
