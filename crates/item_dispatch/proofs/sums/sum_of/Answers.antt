use Rattle.std.proofs.Common.{◌<◌, ◌≤◌, ◌^◌, map, arith, ◌∙◌, length, unsigned_abs, to_z, w64}
use Rattle.std.proofs.lemmas.List.{length-map}
use Rattle.item_dispatch.proofs.Written.{read_item}
use Rattle.item_dispatch.proofs.Totals.{abs_add, added, item_small, total_plus}
use Rattle.item_dispatch.proofs.sums.sum_of.Goals as goal

pub loop-item-preserved : goal.loop-item-preserved
loop-item-preserved g c =
    let number = g.T.Number.number in
    let xs = map number c.args.items.now in
    let k = c.loop-item.item-index in
    let s = to_z w64 c.loop-item.sum-bits in
    let x = c.widen-sum.result in
    let within : k < length xs = omega (arith, length-map c.args.items.now number, c.loop-item-test.true) in
    let small : unsigned_abs x ≤ 2 ^ 31 = rw c.widen-sum.ensures.value (item_small g.T.Number.kind _ c.widen-sum.ensures.in_range) in
    let near = c.loop-item.invariant.small in
    let sum = added s x (omega (arith, near, c.requires)) small in
    record {
      sum = sum ∙ total_plus xs k s x within c.loop-item.invariant.sum (c.widen-sum.ensures.value ∙ read_item number c.args.items.now k c.item-item.result c.item-item.is c.loop-item-test.true);
      small = rw sum (omega (arith, near, abs_add s x));
    }
