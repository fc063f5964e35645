use Rattle.std.proofs.Common.{◌^◌, ◌∙◌, ap, map, take, arith, w16, w32, w64, ℤ, List, All}
use mir.Val.{to_z}
use Rattle.std.proofs.lemmas.List.Elements.{All-take}
use Rattle.stream_model.specs.Numbers.{IsItem}
use Rattle.stream_model.specs.declared.vocabulary.ItemType.TheVariants.{Int}
use Rattle.lane_filters.proofs.Signed.{back}
use Rattle.lane_filters.proofs.Products.{Known, shorts_known, ints_known, known_cast, product_asks, product_is, product_within, product_fits}
use Rattle.lane_filters.proofs.filter_lane.I32ProductLane.products.Goals as goal

eight : (xs : List ℤ) → All (IsItem Int) xs → Known w32 w64 (2 ^ 31) (take 8 xs)
eight xs h = ints_known (take 8 xs) (All-take (IsItem Int) 8 xs h)

pub overflow_cast-items : goal.overflow_cast-items
overflow_cast-items c = known_cast w32 w64 (2 ^ 31) (take 8 c.args.items.now) (eight c.args.items.now c.requires.items)

pub overflow_cast-result : goal.overflow_cast-result
overflow_cast-result c = known_cast w16 w64 (2 ^ 15) c.args.taps (shorts_known c.args.taps c.requires.taps)

pub overflow_mul-result : goal.overflow_mul-result
overflow_mul-result c =
    product_asks w16 w32 w64 (2 ^ 15) (2 ^ 31) c.args.taps (take 8 c.args.items.now) (shorts_known c.args.taps c.requires.taps) (eight c.args.items.now c.requires.items) (omega arith)

pub returns-clause-value : goal.returns-clause-value
returns-clause-value c =
    let hs = c.args.taps in
    let xs = take 8 c.args.items.now in
    let h = shorts_known hs c.requires.taps in
    let x = eight c.args.items.now c.requires.items in
    ap (map (to_z w64)) (product_is w16 w32 w64 (2 ^ 15) (2 ^ 31) hs xs h x (omega arith))
    ∙ back w64 _ (product_fits w16 w32 w64 (2 ^ 15) (2 ^ 31) hs xs h x (omega arith))

pub returns-clause-within : goal.returns-clause-within
returns-clause-within c =
    let hs = c.args.taps in
    let xs = take 8 c.args.items.now in
    let h = shorts_known hs c.requires.taps in
    let x = eight c.args.items.now c.requires.items in
    rw (product_is w16 w32 w64 (2 ^ 15) (2 ^ 31) hs xs h x (omega arith), back w64 _ (product_fits w16 w32 w64 (2 ^ 15) (2 ^ 31) hs xs h x (omega arith)))
    (product_within w16 w32 w64 (2 ^ 15) (2 ^ 31) hs xs h x (omega arith))
