use Rattle.std.proofs.Common.{◌≡◌, ◌*◌, ◌^◌, map, length, w64}
use mir.Val.{to_z}
use Rattle.stream_model.specs.Lists.{sum_below}
use Rattle.stream_model.specs.Numbers.{total}
use Rattle.lane_filters.specs.Words.{AreWithin, tap_product}
use Rattle.lane_filters.proofs.dots.dot_blocks.Given as goal

abbrev pub invariant-loop-block : goal.invariant-loop-block
invariant-loop-block g l =
    (total (map (to_z w64) l.sums) ≡ sum_below (8 * l.block) (tap_product l.h (map g.T.Number.number l.x)))
    × AreWithin (l.block * 2 ^ 46) (map (to_z w64) l.sums)
    × (length (map (to_z w64) l.sums) ≡ 8)
