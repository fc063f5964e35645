use Rattle.std.proofs.Common.{◌≡◌, ◌+◌, ◌*◌, ◌/◌, ◌<◌, ◌≤◌, ◌^◌, ◌∙◌, ◌++◌, ◌∷◌, [], ap, sym, map, take, length, arith, w64}
use mir.Val.{to_z, of_z}
use Rattle.std.proofs.lemmas.Int.{to_z-of_z}
use Rattle.std.proofs.lemmas.List.{length-map, map-set, take_more_set}
use Rattle.stream_model.specs.Lists.{listed}
use Rattle.stream_model.specs.Numbers.{sat, rnd}
use Rattle.lane_filters.specs.Words.{output}
use Rattle.lane_filters.proofs.Lists.{listed_more}
use Rattle.lane_filters.proofs.Signed.{near_again}
use Rattle.lane_filters.proofs.Blocks.{outputs_more}
use Rattle.lane_filters.proofs.fir.short_row.Goals as goal

pub rounded_lanes-requires-clause-sums : goal.rounded_lanes-requires-clause-sums
rounded_lanes-requires-clause-sums g c = near_again (2 ^ 60) (2 ^ 60) c.eight_sums-sums.result (omega arith) (omega arith) c.eight_sums-sums.ensures.within

pub store-requires-clause-numbers : goal.store-requires-clause-numbers
store-requires-clause-numbers g c = near_again (2 ^ 61) (2 ^ 61) c.rounded_lanes.result (omega arith) (omega arith) c.rounded_lanes.ensures.within

pub loop-block-preserved : goal.loop-block-preserved
loop-block-preserved g c =
    let at = 8 * c.loop-block.block in
    let number = g.T.Number.number in
    let x = map number c.args.x.now in
    let f = output g.T.Number.kind c.args.h.now x c.args.shift in
    let old = map number c.loop-block.out in
    let new = map number c.store.new.out in
    let e : at + 8 ≡ 8 * (c.loop-block.block + 1) = omega arith in
    let room : at + 8 ≤ length old = omega (arith, length-map c.loop-block.out number) in
    let more = outputs_more g.T.Number.kind c.args.h.now x c.args.shift at old new c.eight_sums-sums.result c.rounded_lanes.result
    c.eight_sums-sums.ensures.value c.eight_sums-sums.ensures.within c.rounded_lanes.ensures.value c.rounded_lanes.ensures.within c.store.ensures room c.loop-block.invariant in
    ap (λ n. take n new) (sym e) ∙ more ∙ ap (λ n. listed n f) e

pub loop-n-init : goal.loop-n-init
loop-n-init g c =
    let e : 8 * c.loop-block.block ≡ 8 * (length c.loop-block.out / 8) = omega arith in
    rw e at c.loop-block.invariant

pub loop-n-preserved : goal.loop-n-preserved
loop-n-preserved g c =
    let n = c.loop-n.n in
    let number = g.T.Number.number in
    let ys = c.loop-n.out in
    let v = c.saturate.result in
    let f = output g.T.Number.kind c.args.h.now (map number c.args.x.now) c.args.shift in
    let one : to_z w64 (of_z w64 c.one_sum.result) ≡ c.one_sum.result = to_z-of_z w64 c.one_sum.result (record { sfits = c.one_sum.type_inv }) in
    let round : to_z w64 (of_z w64 c.rounded.result) ≡ c.rounded.result = to_z-of_z w64 c.rounded.result (record { sfits = c.rounded.type_inv }) in
    let value : number v ≡ f n =
    c.saturate.ensures ∙ ap (sat g.T.Number.kind) (round ∙ c.rounded.ensures ∙ ap (λ z. rnd z c.args.shift) (one ∙ c.one_sum.ensures.value)) in
    let room : n < length (map number ys) = omega (arith, length-map ys number) in
    ap (take (n + 1)) (map-set number ys n v) ∙ take_more_set (map number ys) n (number v) room
    ∙ ap (λ l. l ++ number v ∷ []) c.loop-n.invariant ∙ ap (λ z. listed n f ++ z ∷ []) value ∙ sym (listed_more n f)
