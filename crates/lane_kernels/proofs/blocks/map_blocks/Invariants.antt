use Rattle.std.proofs.Common.{◌≡◌, ◌*◌, map, take}
use Rattle.lane_kernels.proofs.blocks.map_blocks.Given as goal

abbrev pub invariant-loop-turn : goal.invariant-loop-turn
invariant-loop-turn g l = map g.U.Number.number (take (l.turn * 16) l.out) ≡ take (l.turn * 16) (map (g.M.MapBlock.means l.op) (map g.T.Number.number l.a))
