use Rattle.std.proofs.Common.{◌≡◌, ◌*◌, map, take}
use Rattle.stream_model.specs.Lists.{listed}
use Rattle.lane_filters.specs.Words.{output}
use Rattle.lane_filters.proofs.fir.long_row.Given as goal

abbrev pub invariant-loop-block : goal.invariant-loop-block
invariant-loop-block g l =
    take (32 * l.block) (map g.T.Number.number l.out) ≡ listed (32 * l.block) (output g.T.Number.kind l.h (map g.T.Number.number l.x) l.shift)
