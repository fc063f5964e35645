use Rattle.std.proofs.Common.{◌≤◌, ◌∙◌, length, arith}
use Rattle.lane_kernels.proofs.Fixed.{zip2_fixed}
use Rattle.lane_kernels.proofs.plain.FixedMapBlock.block.Goals as goal

pub returns : goal.returns
returns g c =
    let a = c.args.a.now in
    let few : length a ≤ 16 = omega (arith, c.requires.a_block.whole, g.met.T.SimdLane.has_few_lanes) in
    c.block.ensures ∙ zip2_fixed g.T.Number.number g.Z.ZipBlock.means a c.args.self.now.by 16 few
