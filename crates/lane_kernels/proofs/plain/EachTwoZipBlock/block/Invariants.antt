use Rattle.std.proofs.Common.{◌≡◌, map, take}
use Rattle.std.specs.Simd.Lanes.{zip2}
use Rattle.lane_kernels.proofs.plain.EachTwoZipBlock.block.Given as goal

abbrev pub invariant-loop-k : goal.invariant-loop-k
invariant-loop-k g l = map g.T.Number.number (take l.k l.out) ≡ take l.k (zip2 g.O.OfTwo.means (map g.T.Number.number l.a) (map g.T.Number.number l.b))
