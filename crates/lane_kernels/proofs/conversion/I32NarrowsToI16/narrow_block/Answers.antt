use Rattle.std.proofs.Common.{ℤ, map, take, replicate, of_z, to_z, w16, w32}
use Rattle.std.specs.Simd.Lanes.{zip2}
use Rattle.stream_model.specs.Numbers.{IsItem, wrap}
use Rattle.stream_model.specs.declared.vocabulary.ItemType.TheVariants.{Short, Int}
use Rattle.lane_kernels.proofs.Converted.{up, down, short_asks, halved_lanes, int_to_short}
use Rattle.lane_kernels.proofs.Lanes.{stored_map}
use Rattle.lane_kernels.proofs.conversion.I32NarrowsToI16.narrow_block.Goals as goal

pub overflow_cast-out : goal.overflow_cast-out
overflow_cast-out c =
    short_asks 16 (map (of_z w32) (take 16 c.args.a.now))

pub returns : goal.returns
returns c =
    stored_map (λ (z : ℤ). z) (λ (z : ℤ). z) (IsItem Int) 16 c.args.out.now c.requires.out_block
    (λ xs. map (to_z w16) (map (λ u. of_z w16 (to_z w32 u)) (zip2 down (zip2 up (map (of_z w32) xs) (replicate 16 16)) (replicate 16 16))))
    (λ z. to_z w16 (of_z w16 (to_z w32 (down (up (of_z w32 z) 16) 16)))) (wrap Short) (halved_lanes (of_z w32) 16) int_to_short
    c.args.a.now c.requires.a_block.whole c.requires.a_block.items
