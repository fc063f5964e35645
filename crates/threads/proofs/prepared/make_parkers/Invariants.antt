use Rattle.std.proofs.Common.{◌≡◌, ◌≤◌, vec_len, vec_capacity}
use Rattle.threads.proofs.prepared.make_parkers.Given as goal

abbrev pub invariant-loop-parker : goal.invariant-loop-parker
invariant-loop-parker l = record {
  many : vec_len l.parkers ≡ l.parker;
  room : l.count ≤ vec_capacity l.parkers;
}
