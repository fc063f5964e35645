use Rattle.std.proofs.Common.{◌≡◌, ◌+◌, ◌++◌, map, take, vec_len, vec_capacity}
use Rattle.plant_storage.specs.Marks.{stamped}
use Rattle.plant_storage.proofs.tape.push_stamped.Given as goal

abbrev pub invariant-loop-mark : goal.invariant-loop-mark
invariant-loop-mark l = record {
  items : l.tags.items ≡ l.fn.tags.items ++ map (stamped l.source) (take l.mark-index l.marks);
  len : vec_len l.tags ≡ vec_len l.fn.tags + l.mark-index;
  capacity : vec_capacity l.tags ≡ vec_capacity l.fn.tags;
}
