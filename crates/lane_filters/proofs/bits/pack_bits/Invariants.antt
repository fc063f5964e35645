use Rattle.std.proofs.Common.{◌≡◌, map, take, pos}
use Rattle.stream_model.specs.Lists.{listed}
use Rattle.kind_model.specs.Kernels.{packed}
use Rattle.lane_filters.proofs.bits.pack_bits.Given as goal

abbrev pub invariant-loop-n : goal.invariant-loop-n
invariant-loop-n l = take l.n (map pos l.out) ≡ listed l.n (packed l.k (map pos l.x))
