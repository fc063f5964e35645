use Rattle.std.proofs.Common.{◌≡◌, ℕ, ◌+◌, ◌%◌, ◌<◌, ◌≤◌, length, get_or}
use Rattle.bit_blocks.proofs.sums.add_bytes.Given as goal

abbrev pub invariant-loop-k : goal.invariant-loop-k
invariant-loop-k l = record {
  same_length : length l.sums ≡ length l.initial.sums;
  done : (j : ℕ) → j < l.k → get_or l.sums j 0 % 2 ≡ (get_or l.initial.sums j 0 + get_or l.bytes j 0) % 2;
  rest : (j : ℕ) → l.k ≤ j → get_or l.sums j 0 ≡ get_or l.initial.sums j 0;
}
