use Rattle.std.proofs.Common.{arith, ℤ, map, take, of_z, to_z, w16, w32}
use Rattle.std.proofs.lemmas.List.{take_all}
use Rattle.std.proofs.lemmas.List.Elements.{All-same}
use Rattle.stream_model.specs.Numbers.{IsItem, wrap}
use Rattle.stream_model.specs.declared.vocabulary.ItemType.TheVariants.{Short, Int}
use Rattle.numbers.proofs.Widths.{short_in_32}
use Rattle.lane_kernels.proofs.Converted.{short_to_int}
use Rattle.lane_kernels.proofs.Lanes.{stored_map, map_of_bits}
use Rattle.lane_kernels.proofs.Products.{cast_signed_asks}
use Rattle.lane_kernels.proofs.Wrapped.{short_lanes}
use Rattle.lane_kernels.proofs.conversion.I16WidensToI32.widen_block.Goals as goal

pub overflow_cast-out : goal.overflow_cast-out
overflow_cast-out c =
    cast_signed_asks w16 w32 Short short_lanes.fits short_in_32 (take 8 c.args.a.now)
    (All-same (IsItem Short) (take 8 c.args.a.now) c.args.a.now (take_all 8 c.args.a.now (omega (arith, c.requires.a_block.whole))) c.requires.a_block.items)

pub returns : goal.returns
returns c =
    stored_map (λ (z : ℤ). z) (λ (z : ℤ). z) (IsItem Short) 8 c.args.out.now c.requires.out_block (λ xs. map (to_z w32) (map (λ u. of_z w32 (to_z w16 u)) (map (of_z w16) xs)))
    (λ z. to_z w32 (of_z w32 (to_z w16 (of_z w16 z)))) (wrap Int) (λ xs e. map_of_bits (of_z w16) (to_z w32) (λ u. of_z w32 (to_z w16 u)) xs) short_to_int
    c.args.a.now c.requires.a_block.whole c.requires.a_block.items
