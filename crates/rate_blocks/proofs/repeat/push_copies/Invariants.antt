use Rattle.std.proofs.Common.{◌≡◌, ◌+◌, ◌++◌, replicate, vec_len, vec_capacity}
use Rattle.rate_blocks.proofs.repeat.push_copies.Given as goal

abbrev pub invariant-loop-copy : goal.invariant-loop-copy
invariant-loop-copy g l = record {
  items : l.made.items ≡ l.initial.made.items ++ replicate l._copy l.item;
  len : vec_len l.made ≡ vec_len l.initial.made + l._copy;
  capacity : vec_capacity l.made ≡ vec_capacity l.initial.made;
}
