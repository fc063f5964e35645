use Rattle.std.proofs.Common.{◌≡◌, ◌*◌, map, take}
use Rattle.stream_model.specs.Lists.{listed}
use Rattle.lane_filters.specs.Words.{output}
use Rattle.lane_filters.proofs.fir.short_row.Given as goal

abbrev pub invariant-loop-block : goal.invariant-loop-block
invariant-loop-block g l =
    take (8 * l.block) (map g.T.Number.number l.out) ≡ listed (8 * l.block) (output g.T.Number.kind l.h (map g.T.Number.number l.x) l.shift)

abbrev pub invariant-loop-n : goal.invariant-loop-n
invariant-loop-n g l = take l.n (map g.T.Number.number l.out) ≡ listed l.n (output g.T.Number.kind l.h (map g.T.Number.number l.x) l.shift)
