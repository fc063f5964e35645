use Rattle.std.proofs.Common.{◌^◌, ◌-◌, [], ◌∷◌, subst, sym, take, arith, w16, w32}
use Rattle.lane_filters.specs.Words.{AreWithin}
use Rattle.lane_filters.proofs.Products.{known_cast, product_asks}
use Rattle.lane_filters.proofs.NarrowSums.{taps_known, items_known, paired_asks, paired_is, paired_near}
use Rattle.lane_filters.proofs.pairs.pair_sums.Goals as goal

pub overflow_cast-items : goal.overflow_cast-items
overflow_cast-items c =
    known_cast w16 w32 (2 ^ 15) (take 16 c.args.items.now)
    (items_known c.args.a c.args.b c.args.items.now c.ranges.a c.ranges.b c.requires.light c.requires.items c.requires.room)

pub overflow_mul-products : goal.overflow_mul-products
overflow_mul-products c =
    let a = c.args.a in
    let b = c.args.b in
    let x = c.args.items.now in
    product_asks w16 w16 w32 (2 ^ 15) (2 ^ 15) (a ∷ b ∷ a ∷ b ∷ a ∷ b ∷ a ∷ b ∷ a ∷ b ∷ a ∷ b ∷ a ∷ b ∷ a ∷ b ∷ []) (take 16 x) (taps_known a b x c.ranges.a c.ranges.b c.requires.light c.requires.items c.requires.room)
    (items_known a b x c.ranges.a c.ranges.b c.requires.light c.requires.items c.requires.room) (omega arith)

pub overflow_add-result : goal.overflow_add-result
overflow_add-result c = paired_asks c.args.a c.args.b c.args.items.now c.ranges.a c.ranges.b c.requires.light c.requires.items c.requires.room

pub returns-clause-value : goal.returns-clause-value
returns-clause-value c = paired_is c.args.a c.args.b c.args.items.now c.ranges.a c.ranges.b c.requires.light c.requires.items c.requires.room

pub returns-clause-within : goal.returns-clause-within
returns-clause-within c =
    subst (AreWithin (2 ^ 31 - 2 ^ 15)) (sym (paired_is c.args.a c.args.b c.args.items.now c.ranges.a c.ranges.b c.requires.light c.requires.items c.requires.room))
    (paired_near c.args.a c.args.b c.args.items.now c.ranges.a c.ranges.b c.requires.light c.requires.items c.requires.room)
