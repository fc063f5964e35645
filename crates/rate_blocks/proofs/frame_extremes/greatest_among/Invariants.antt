use Rattle.std.proofs.Common.{◌≡◌, map, take}
use Rattle.kind_model.specs.Math.{greatest_down_to}
use Rattle.rate_blocks.proofs.frame_extremes.greatest_among.Given as goal

abbrev pub invariant-loop-item : goal.invariant-loop-item
invariant-loop-item g l = g.T.Number.number l.found ≡ greatest_down_to (g.T.Number.number l.fn.least) (take l.item-index (map g.T.Number.number l.items))
