use Rattle.std.proofs.Common.{◌-◌, ◌^◌, w32}
use Rattle.kind_model.specs.Kernels.{turned}
use Rattle.stream_model.specs.declared.vocabulary.ItemType.TheVariants.{Int}
use Rattle.lane_kernels.proofs.SignedLanes.{signed_map}
use Rattle.lane_kernels.proofs.Wrapped.{int_lanes, turned_bits}
use Rattle.lane_kernels.proofs.ints.I32SimdLane.not_block.Goals as goal

pub returns : goal.returns
returns c =
    signed_map 8 w32 Int c.args.out.now c.args.a.now c.requires.out_block c.requires.a_block (λ x. (2 ^ 32 - 1) - x) (turned Int)
    (λ x p. turned_bits w32 Int int_lanes x (int_lanes.fits x p))
