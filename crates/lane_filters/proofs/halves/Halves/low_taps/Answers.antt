use Rattle.lane_filters.proofs.SplitTaps.{long_low, lows_light, lows_short}
use Rattle.lane_filters.proofs.halves.Halves.low_taps.Goals as goal

pub returns-clause-len : goal.returns-clause-len
returns-clause-len c = long_low c.args.h.now c.args.self.now.high c.args.self.now.low c.requires.halves

pub returns-clause-light : goal.returns-clause-light
returns-clause-light c = lows_light c.args.h.now c.args.self.now.high c.args.self.now.low c.requires.halves c.requires.most

pub returns-clause-in_range : goal.returns-clause-in_range
returns-clause-in_range c = lows_short c.args.h.now c.args.self.now.high c.args.self.now.low c.requires.halves
