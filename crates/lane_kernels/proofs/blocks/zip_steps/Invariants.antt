use Rattle.std.proofs.Common.{◌-◌, length, map}
use Rattle.std.specs.Simd.Lanes.{zip2}
use Rattle.lane_kernels.proofs.Parts.{Reached}
use Rattle.lane_kernels.proofs.blocks.zip_steps.Given as goal

abbrev pub invariant-blocks-2 : goal.invariant-blocks-2
invariant-blocks-2 g l = Reached g.T.Number.number (zip2 g.Z.ZipBlock.means (map g.T.Number.number l.a) (map g.T.Number.number l.b)) (length l.a) l.at l.out

abbrev pub decreases-blocks-2 : goal.decreases-blocks-2
decreases-blocks-2 g l = length l.a - l.at
