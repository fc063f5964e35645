use Rattle.std.proofs.Common.{◌≡◌, ◌*◌, map, take}
use Rattle.std.specs.Simd.Lanes.{zip2}
use Rattle.lane_kernels.proofs.blocks.zip_blocks.Given as goal

abbrev pub invariant-loop-turn : goal.invariant-loop-turn
invariant-loop-turn g l = map g.T.Number.number (take (l.turn * 16) l.out) ≡ take (l.turn * 16) (zip2 g.Z.ZipBlock.means (map g.T.Number.number l.a) (map g.T.Number.number l.b))
