use Rattle.std.proofs.Common.{length, map, arith}
use Rattle.stream_model.specs.Lists.{item}
use Rattle.kind_model.specs.Rates.{from_place}
use Rattle.item_dispatch.proofs.Written.{write_next, written_all}
use Rattle.rate_blocks.proofs.Reordered.{read_place}
use Rattle.rate_blocks.proofs.permute.reorder.Goals as goal

pub loop-j-preserved : goal.loop-j-preserved
loop-j-preserved g c =
    let number = g.T.Number.number in
    let order = c.args.order.now in
    let items = c.args.items.now in
    write_next number c.loop-j.out c.loop-j.j c.index-items-order.result (λ j. item (map number items) (from_place order j)) c.loop-j.invariant
    (omega (arith, c.requires.given, c.loop-j-test.true))
    (read_place number items order c.loop-j.j _ c.index-items-order.result c.requires.order c.loop-j-test.true c.requires.taken c.index-items-order.is)

pub returns : goal.returns
returns g c =
    let number = g.T.Number.number in
    let order = c.args.order.now in
    written_all number c.loop-j.out (length order) (λ j. item (map number c.args.items.now) (from_place order j)) (omega (arith, c.requires.given))
    (λ j h. c.loop-j.invariant j (omega (arith, h, c.loop-j-test.false)))
