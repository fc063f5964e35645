use Rattle.std.proofs.Common.{◌≡◌, ◌+◌, ◌<◌, ◌≤◌, length, map, take}
use Rattle.stream_model.specs.Lists.{listed}
use Rattle.kind_model.specs.Math.{items_at}
use Rattle.items.specs.Items.{type_of, numbers_of, spare_of}
use Rattle.math_blocks.proofs.joined.join_windows.Given as goal

abbrev pub invariant-loop-p : goal.invariant-loop-p
invariant-loop-p g l = record {
  several : l.p < length l.windows → 2 ≤ l.p;
  item_type : type_of l.out ≡ type_of l.initial.out;
  room : spare_of l.fn.out ≤ spare_of l.out + length (numbers_of l.out);
  items : numbers_of l.out ≡ listed l.count (λ k. g.J.Joins.joins (type_of l.initial.out) (items_at (map numbers_of (take (l.p) l.windows)) k));
}
