use Rattle.lane_filters.proofs.IntLanes.{lower_ints, upper_ints}
use Rattle.lane_filters.proofs.ints.spread.Goals as goal

pub returns-clause-lower : goal.returns-clause-lower
returns-clause-lower c = lower_ints c.args.items.now c.requires.room c.requires.range

pub returns-clause-upper : goal.returns-clause-upper
returns-clause-upper c = upper_ints c.args.items.now c.requires.room c.requires.range
