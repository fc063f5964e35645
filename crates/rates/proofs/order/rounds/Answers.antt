use Rattle.std.proofs.Common.{arith}
use Rattle.rates.proofs.Ordering.{next_round, all_rounds}
use Rattle.rates.proofs.order.rounds.Goals as goal

pub place-requires : goal.place-requires
place-requires g c =
    record { rates = c.requires.rates; table = c.requires.table; known = c.mark.ensures; placing = (c.loop-round.invariant c.requires.rates.level c.requires.rates.levels).placing }

pub loop-round-preserved : goal.loop-round-preserved
loop-round-preserved g c = λ level levels.
    next_round g.net level levels c.loop-round.placed c.loop-round.ready c.mark.new.ready c.loop-round.order.items c.loop-round._round (c.loop-round.invariant level levels) c.mark.ensures c.place.new.placed c.place.new.order.items c.in_ok-place.ensures

pub returns : goal.returns
returns g c =
    let rounded = c.loop-round.invariant c.requires.rates.level c.requires.rates.levels in
    let long = rounded.long in
    let end = c.loop-round-test.false in
    let whole = c.requires.long in
    all_rounds g.net c.requires.rates.level c.requires.rates.levels c.loop-round.placed c.loop-round.ready c.loop-round.order.items c.loop-round._round rounded (omega arith)
