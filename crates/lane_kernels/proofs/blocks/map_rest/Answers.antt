use Rattle.std.proofs.Common.{length, arith}
use Rattle.lane_kernels.proofs.Parts.{cut_map}
use Rattle.lane_kernels.proofs.blocks.map_rest.Goals as goal

pub returns : goal.returns
returns g c =
    cut_map g.T.Number.number g.U.Number.number (g.M.MapBlock.means c.args.op.now) (length c.args.a.now) c.LANES-lanes.result c.padded-block.result _ c.map_one-2.new.out _ _
    (omega (arith, c.LANES-lanes.ensures, c.requires.at_most_a_block)) (omega (arith, c.padded-block.ensures.whole, c.LANES-lanes.ensures, g.met.M.MapBlock.has_few_lanes)) c.padded-block.ensures.items c.map_one-2.ensures c.copy_from_slice.ensures.after
