use Rattle.std.proofs.Common.{◌≡◌, take, vec_len, vec_capacity}
use Rattle.plant_storage.proofs.tape.copied.Given as goal

abbrev pub invariant-loop-tag : goal.invariant-loop-tag
invariant-loop-tag l = record {
  items : l.copy.items ≡ take l.tag-index l.tags.items;
  len : vec_len l.copy ≡ l.tag-index;
  room : vec_capacity l.copy ≡ vec_capacity l.tags;
}
