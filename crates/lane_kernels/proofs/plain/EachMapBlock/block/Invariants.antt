use Rattle.std.proofs.Common.{◌≡◌, map, take}
use Rattle.lane_kernels.proofs.plain.EachMapBlock.block.Given as goal

abbrev pub invariant-loop-k : goal.invariant-loop-k
invariant-loop-k g l = map g.T.Number.number (take l.k l.out) ≡ take l.k (map (g.O.OfOne.means l.self.op) (map g.T.Number.number l.a))
