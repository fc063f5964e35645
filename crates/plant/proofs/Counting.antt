-- Sums over the blocks of a graph.
use Rattle.std.proofs.Common.{◌≡◌, ℕ, ◌+◌, map, min, arith}
use Rattle.std.specs.Prelude.{sum}
use Rattle.std.proofs.lemmas.List.FromFn.{sum_by-map-range_with_len_more}
use Rattle.stream_model.specs.Lists.{below}

-- one block more
pub sum-below_more : (f : ℕ → ℕ) (n : ℕ) → sum (map f (below (n + 1))) ≡ sum (map f (below n)) + f n
sum-below_more f n = sum_by-map-range_with_len_more (λ x. x) f 0 n n (omega arith)

-- a sum that stops at a number, and one number more
pub capped : (s x m : ℕ) → min (min s m + x) m ≡ min (s + x) m
capped s x m = omega arith
