use Rattle.std.proofs.Common.{◌≡◌, ◌*◌, map, take, pos}
use Rattle.stream_model.specs.Lists.{listed}
use Rattle.kind_model.specs.Kernels.{unpacked}
use Rattle.lane_filters.proofs.bits.unpack_bits.Given as goal

abbrev pub invariant-loop-n : goal.invariant-loop-n
invariant-loop-n l = take (l.k * l.n) (map pos l.out) ≡ listed (l.k * l.n) (unpacked l.k (map pos l.x))
