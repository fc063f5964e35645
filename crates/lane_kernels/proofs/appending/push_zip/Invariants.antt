use Rattle.std.proofs.Common.{◌≡◌, ◌+◌, ◌*◌, ◌++◌, map, take, vec_len, vec_capacity}
use Rattle.std.specs.Simd.Lanes.{zip2}
use Rattle.lane_kernels.proofs.appending.push_zip.Given as goal

abbrev pub invariant-loop-turn : goal.invariant-loop-turn
invariant-loop-turn g l = record {
  items : map g.T.Number.number l.made.items
      ≡ map g.T.Number.number l.initial.made.items ++ take (l.turn * 16) (zip2 g.Z.ZipBlock.means (map g.T.Number.number l.a) (map g.T.Number.number l.b));
  len : vec_len l.made ≡ vec_len l.initial.made + l.turn * 16;
  capacity : vec_capacity l.made ≡ vec_capacity l.initial.made;
}
