use Rattle.std.proofs.Common.{◌<◌, ◌∙◌, length, map, arith, ap}
use Rattle.std.proofs.lemmas.Int.{ints}
use Rattle.std.proofs.lemmas.List.{length-map}
use Rattle.item_dispatch.proofs.Written.{read_item}
use Rattle.rate_blocks.proofs.Chosen.{greatest_more, greater_takes, greater_keeps}
use Rattle.rate_blocks.proofs.frame_extremes.greatest_among.Goals as goal
use Rattle.rate_blocks.proofs.frame_extremes.greatest_among.Goals.{then-widen, else-widen}

pub loop-item-preserved : goal.loop-item-preserved
loop-item-preserved g c =
    let number = g.T.Number.number in
    let xs = map number c.args.items.now in
    let k = c.loop-item.item-index in
    let s = number c.loop-item.found in
    let x = number c.item-item.result in
    let within : k < length xs = omega (arith, length-map c.args.items.now number, c.loop-item-test.true) in
    let step = greatest_more (number c.args.least) xs k s x within c.loop-item.invariant (read_item number c.args.items.now k c.item-item.result c.item-item.is c.loop-item-test.true) in
    elim c.if-widen.branch [
      | then-widen w ↦ ap number w.found-is ∙ greater_takes s x (omega (arith, ints, w.if-widen, c.widen.ensures.value, c.widen-in-loop-item.ensures.value)) ∙ step
      | else-widen w ↦ ap number w.found-is ∙ greater_keeps s x (omega (arith, ints, w.if-widen, c.widen.ensures.value, c.widen-in-loop-item.ensures.value)) ∙ step
    ]
