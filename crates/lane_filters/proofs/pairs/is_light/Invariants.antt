use Rattle.std.proofs.Common.{◌≡◌, ◌*◌, ◌≤◌, ◌^◌, take}
use Rattle.lane_filters.specs.Words.{weight}
use Rattle.lane_filters.proofs.pairs.is_light.Given as goal

abbrev pub invariant-loop-tap : goal.invariant-loop-tap
invariant-loop-tap l = (l.weight ≡ weight (take l.tap-index l.h)) × (l.weight ≤ l.tap-index * 2 ^ 15)
