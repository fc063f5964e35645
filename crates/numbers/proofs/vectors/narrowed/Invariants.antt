use Rattle.std.proofs.Common.{◌≡◌, ◌≤◌, map, take, length, vec_len, vec_capacity}
use Rattle.numbers.proofs.vectors.narrowed.Given as goal

abbrev pub invariant-loop-n : goal.invariant-loop-n
invariant-loop-n g l =
    (map g.T.Number.number l.narrow.items ≡ take l.n-index l.numbers)
    × (vec_len l.narrow ≡ l.n-index)
    × (length l.numbers ≤ vec_capacity l.narrow)
