use Rattle.std.proofs.Common.{ℕ, ℤ, ◌<◌, ◌≢◌, get_or}
use Rattle.rate_blocks.proofs.permute.are_distinct.Given as goal

abbrev pub invariant-loop-k : goal.invariant-loop-k
invariant-loop-k l = (i j : ℕ) (d : ℤ) → i < j → j < l.k → get_or l.numbers i d ≢ get_or l.numbers j d
