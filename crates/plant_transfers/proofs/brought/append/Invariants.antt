use Rattle.std.proofs.Common.{◌≡◌, ◌+◌, ◌++◌, take, vec_len, vec_capacity}
use Rattle.plant_transfers.proofs.brought.append.Given as goal

abbrev pub invariant-loop-tag : goal.invariant-loop-tag
invariant-loop-tag l = record {
  items : l.list.items ≡ l.initial.list.items ++ take l.tag-index l.tags;
  long : vec_len l.list ≡ vec_len l.initial.list + l.tag-index;
  capacity : vec_capacity l.list ≡ vec_capacity l.initial.list;
}
