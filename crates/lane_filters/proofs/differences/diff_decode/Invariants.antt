use Rattle.std.proofs.Common.{◌≡◌, ◌+◌, ◌*◌, map, take, pos}
use Rattle.stream_model.specs.Lists.{listed}
use Rattle.lane_filters.specs.Words.{decoded}
use Rattle.lane_filters.proofs.differences.diff_decode.Given as goal

abbrev pub invariant-loop-block : goal.invariant-loop-block
invariant-loop-block l = take (16 * l.block + 1) (map pos l.out) ≡ listed (16 * l.block + 1) (decoded l.m (pos l.before) (map pos l.x))

abbrev pub invariant-loop-n : goal.invariant-loop-n
invariant-loop-n l = take l.n (map pos l.out) ≡ listed l.n (decoded l.m (pos l.before) (map pos l.x))
