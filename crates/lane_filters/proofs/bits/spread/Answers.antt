use Rattle.lane_filters.proofs.PackedBits.{spread_bits}
use Rattle.lane_filters.proofs.bits.spread.Goals as goal

pub returns-clause-bits : goal.returns-clause-bits
returns-clause-bits c = spread_bits c.args.k c.args.byte c.requires.least c.requires.most
