use Rattle.std.proofs.Common.{sym, subst}
use Rattle.rates.specs.Tables.{AreFound}
use Rattle.rates.proofs.Solving.{have_firings}
use Rattle.rates.proofs.answers.solved.Goals as goal

pub sized-requires : goal.sized-requires
sized-requires g c =
    have_firings g.net c.requires.tables.rates c.args.supplies.now c.args.links.now c.args.ratios.now c.in-Some.firings.items c.requires.tables c.requires.solved (sym c.if-not-all_hold.ensures)
    (subst (AreFound g.net c.args.ratios.now) c.in-Some.is c.in_ok-firings.ensures)
