use Rattle.std.proofs.Common.{◌-◌, ◌^◌, w16}
use Rattle.kind_model.specs.Kernels.{turned}
use Rattle.stream_model.specs.declared.vocabulary.ItemType.TheVariants.{Short}
use Rattle.lane_kernels.proofs.SignedLanes.{signed_map}
use Rattle.lane_kernels.proofs.Wrapped.{short_lanes, turned_bits}
use Rattle.lane_kernels.proofs.shorts.I16SimdLane.not_block.Goals as goal

pub returns : goal.returns
returns c =
    signed_map 16 w16 Short c.args.out.now c.args.a.now c.requires.out_block c.requires.a_block (λ x. (2 ^ 16 - 1) - x) (turned Short)
    (λ x p. turned_bits w16 Short short_lanes x (short_lanes.fits x p))
