use Rattle.std.proofs.Common.{◌≡◌, map, take}
use Rattle.kind_model.specs.Math.{least_up_to}
use Rattle.rate_blocks.proofs.frame_extremes.least_among.Given as goal

abbrev pub invariant-loop-item : goal.invariant-loop-item
invariant-loop-item g l = g.T.Number.number l.found ≡ least_up_to (g.T.Number.number l.fn.most) (take l.item-index (map g.T.Number.number l.items))
