use Rattle.std.proofs.Common.{◌≡◌, ◌*◌, map, take, drop}
use Rattle.std.specs.Simd.Lanes.{zip2}
use Rattle.lane_kernels.proofs.joining.zip_into.Given as goal

abbrev pub invariant-loop-turn : goal.invariant-loop-turn
invariant-loop-turn g l = record {
  made : map g.T.Number.number (take (l.turn * 16) l.out)
      ≡ take (l.turn * 16) (zip2 g.Z.ZipBlock.means (map g.T.Number.number l.initial.out) (map g.T.Number.number l.items));
  rest : drop (l.turn * 16) l.out ≡ drop (l.turn * 16) l.initial.out;
}
