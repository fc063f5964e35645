use Rattle.lane_filters.proofs.ByteDifferences.{scalar_is}
use Rattle.lane_filters.proofs.differences.difference.Goals as goal

pub returns : goal.returns
returns c = rw (c.from.ensures, c.from-2.ensures) (scalar_is c.args.m c.args.now c.args.past c.requires.least c.ranges.past.fits)
