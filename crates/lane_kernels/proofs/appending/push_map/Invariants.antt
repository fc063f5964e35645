use Rattle.std.proofs.Common.{◌≡◌, ◌+◌, ◌*◌, ◌++◌, map, take, vec_len, vec_capacity}
use Rattle.lane_kernels.proofs.appending.push_map.Given as goal

abbrev pub invariant-loop-turn : goal.invariant-loop-turn
invariant-loop-turn g l = record {
  items : map g.U.Number.number l.made.items ≡ map g.U.Number.number l.initial.made.items ++ take (l.turn * 16) (map (g.M.MapBlock.means l.op) (map g.T.Number.number l.a));
  len : vec_len l.made ≡ vec_len l.initial.made + l.turn * 16;
  capacity : vec_capacity l.made ≡ vec_capacity l.initial.made;
}
