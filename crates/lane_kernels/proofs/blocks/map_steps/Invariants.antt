use Rattle.std.proofs.Common.{◌-◌, length, map}
use Rattle.lane_kernels.proofs.Parts.{Reached}
use Rattle.lane_kernels.proofs.blocks.map_steps.Given as goal

abbrev pub invariant-blocks-2 : goal.invariant-blocks-2
invariant-blocks-2 g l = Reached g.U.Number.number (map (g.M.MapBlock.means l.op) (map g.T.Number.number l.a)) (length l.a) l.at l.out

abbrev pub decreases-blocks-2 : goal.decreases-blocks-2
decreases-blocks-2 g l = length l.a - l.at
