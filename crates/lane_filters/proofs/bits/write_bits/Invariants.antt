use Rattle.std.proofs.Common.{◌≡◌, ◌+◌, ◌++◌, map, take}
use Rattle.stream_model.specs.Lists.{below}
use Rattle.lane_filters.specs.Words.{bit_of}
use Rattle.lane_filters.proofs.bits.write_bits.Given as goal

abbrev pub invariant-loop-j : goal.invariant-loop-j
invariant-loop-j l = take (l.at + l.j) l.out ≡ take l.at l.fn.out ++ map (bit_of l.k l.byte) (below l.j)
