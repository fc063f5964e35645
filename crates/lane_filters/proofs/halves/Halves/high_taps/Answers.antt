use Rattle.lane_filters.proofs.SplitTaps.{long_high, highs_light, highs_short}
use Rattle.lane_filters.proofs.halves.Halves.high_taps.Goals as goal

pub returns-clause-len : goal.returns-clause-len
returns-clause-len c = long_high c.args.h.now c.args.self.now.high c.args.self.now.low c.requires.halves

pub returns-clause-light : goal.returns-clause-light
returns-clause-light c = highs_light c.args.h.now c.args.self.now.high c.args.self.now.low c.requires.halves c.requires.most

pub returns-clause-in_range : goal.returns-clause-in_range
returns-clause-in_range c = highs_short c.args.h.now c.args.self.now.high c.args.self.now.low c.requires.halves
