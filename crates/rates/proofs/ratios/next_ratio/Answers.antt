use Rattle.rates.proofs.Telling.{next_lowest, next_none}
use Rattle.rates.proofs.ratios.next_ratio.Goals as goal

pub returns-in-Some-first_unknown-clause-next : goal.returns-in-Some-first_unknown-clause-next
returns-in-Some-first_unknown-clause-next g c =
    next_lowest g.net c.args.known.now c.in-None.ensures.first c.in-Some-first_unknown.block c.in-Some-first_unknown.ensures

pub returns-in-None-first_unknown-clause-next : goal.returns-in-None-first_unknown-clause-next
returns-in-None-first_unknown-clause-next g c =
    next_none g.net c.args.known.now c.in-None.ensures.first c.in-None-first_unknown.ensures
