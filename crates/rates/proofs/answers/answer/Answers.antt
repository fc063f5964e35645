use Rattle.std.proofs.Common.{sym, subst}
use Rattle.rates.specs.Tables.{AreRatios}
use Rattle.rates.specs.Answer.{HaveSolved}
use Rattle.rates.proofs.Solving.{ratios_long}
use Rattle.rates.proofs.answers.answer.Goals as goal

pub solved-requires : goal.solved-requires
solved-requires g c =
    let found = subst (AreRatios g.net) c.in-Some.is c.in_ok-ratios.ensures in
    subst (HaveSolved g.net c.args.supplies.now c.args.links.now) (sym c.deref.ensures.value)
    (record {
      tables = c.requires;
      have = record { rates = c.requires.rates; long = ratios_long g.net c.requires.rates c.in-Some.ratios.items (sym found.are); small = found.small };
      solved = sym found.are;
    })
