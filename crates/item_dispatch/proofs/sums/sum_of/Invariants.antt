use Rattle.std.proofs.Common.{◌≡◌, ◌≤◌, ◌*◌, ◌^◌, map, take, unsigned_abs}
use Rattle.stream_model.specs.Numbers.{total}
use Rattle.item_dispatch.proofs.sums.sum_of.Given as goal

abbrev pub invariant-loop-item : goal.invariant-loop-item
invariant-loop-item g l = record {
  sum : l.sum ≡ total (take l.item-index (map g.T.Number.number l.items));
  small : unsigned_abs l.sum ≤ l.item-index * 2 ^ 31;
}
