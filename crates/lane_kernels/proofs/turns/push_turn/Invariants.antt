use Rattle.std.proofs.Common.{◌≡◌, ◌+◌, ◌++◌, take, vec_len, vec_capacity}
use Rattle.lane_kernels.proofs.turns.push_turn.Given as goal

abbrev pub invariant-loop-k : goal.invariant-loop-k
invariant-loop-k g l = record {
  items : l.made.items ≡ l.initial.made.items ++ take l.k l.turn;
  len : vec_len l.made ≡ vec_len l.initial.made + l.k;
  capacity : vec_capacity l.made ≡ vec_capacity l.initial.made;
}
