use Rattle.std.proofs.Common.{◌≡◌, ℕ, ℤ, ◌+◌, ◌*◌, ◌/◌, ◌<◌, ◌^◌, ◌∙◌, List, ap, sym, map, take, length, arith, w16, w32}
use mir.Val.{of_z, to_z}
use Rattle.stream_model.specs.Numbers.{AreItems}
use Rattle.stream_model.specs.declared.vocabulary.ItemType.TheVariants.{Short}
use Rattle.lane_filters.specs.Words.{spread_sums, weight}
use Rattle.lane_filters.proofs.NarrowSums.{spread_again, spread_back}
use Rattle.lane_filters.proofs.Signed.{near_again}
use Rattle.lane_filters.proofs.SplitTaps.{sums_joined}
use Rattle.lane_filters.proofs.Capped.{short_sat}
use Rattle.lane_filters.proofs.Woven.{sixteen_more, wide_lanes_are}
use Rattle.lane_filters.proofs.halves.write_sixteen.Goals as goal

-- the sums by what stands at the list's front are those by the list that was returned
returned : (h half taps x : List ℤ) (at : ℕ) (sums : List ℤ) → weight taps < 2 ^ 16 → AreItems Short x → taps ≡ take (length h) half → length taps ≡ length h
    → sums ≡ spread_sums (take (length h) half) x (2 * (length h / 2)) at → map (to_z w32) (map (of_z w32) sums) ≡ spread_sums taps x (2 * (length taps / 2)) at
returned h half taps x at sums light range value len is =
    spread_back taps x light range (2 * (length taps / 2)) at sums (is ∙ sym (λ i. spread_sums (value i) x (2 * (len i / 2)) at))

pub with_all-requires-clause-even : goal.with_all-requires-clause-even
with_all-requires-clause-even c =
    returned c.args.h.now c.args.halves.now.high c.high_taps.result.now c.args.x.now c.args.at c.args.high.0 c.high_taps.ensures.light c.requires.items_in_range
    c.high_taps.ensures.value c.high_taps.ensures.len c.requires.high_even

pub with_all-requires-clause-odd : goal.with_all-requires-clause-odd
with_all-requires-clause-odd c =
    returned c.args.h.now c.args.halves.now.high c.high_taps.result.now c.args.x.now (c.args.at + 1) c.args.high.1 c.high_taps.ensures.light c.requires.items_in_range
    c.high_taps.ensures.value c.high_taps.ensures.len c.requires.high_odd

pub with_all-requires-2-clause-even : goal.with_all-requires-2-clause-even
with_all-requires-2-clause-even c =
    returned c.args.h.now c.args.halves.now.low c.low_taps.result.now c.args.x.now c.args.at c.args.low.0 c.low_taps.ensures.light c.requires.items_in_range
    c.low_taps.ensures.value c.low_taps.ensures.len c.requires.low_even

pub with_all-requires-2-clause-odd : goal.with_all-requires-2-clause-odd
with_all-requires-2-clause-odd c =
    returned c.args.h.now c.args.halves.now.low c.low_taps.result.now c.args.x.now (c.args.at + 1) c.args.low.1 c.low_taps.ensures.light c.requires.items_in_range
    c.low_taps.ensures.value c.low_taps.ensures.len c.requires.low_odd

pub joined-requires-clause-high : goal.joined-requires-clause-high
joined-requires-clause-high c =
    spread_again c.high_taps.result.now c.args.x.now c.high_taps.ensures.light c.requires.items_in_range (length c.high_taps.result.now) c.args.at c.with_all.result.0 c.with_all.ensures.even

pub joined-requires-clause-low : goal.joined-requires-clause-low
joined-requires-clause-low c =
    spread_again c.low_taps.result.now c.args.x.now c.low_taps.ensures.light c.requires.items_in_range (length c.low_taps.result.now) c.args.at c.with_all-2.result.0 c.with_all-2.ensures.even

pub rounded_lanes-requires-clause-sums : goal.rounded_lanes-requires-clause-sums
rounded_lanes-requires-clause-sums c = near_again (2 ^ 60) (2 ^ 60) c.joined.result (omega arith) (omega arith) c.joined.ensures.within

pub nearest_shorts-even-requires : goal.nearest_shorts-even-requires
nearest_shorts-even-requires c = near_again (2 ^ 61) (2 ^ 61) c.rounded_lanes.result (omega arith) (omega arith) c.rounded_lanes.ensures.within

pub joined-requires-2-clause-high : goal.joined-requires-2-clause-high
joined-requires-2-clause-high c =
    spread_again c.high_taps.result.now c.args.x.now c.high_taps.ensures.light c.requires.items_in_range (length c.high_taps.result.now) (c.args.at + 1) c.with_all.result.1 c.with_all.ensures.odd

pub joined-requires-2-clause-low : goal.joined-requires-2-clause-low
joined-requires-2-clause-low c =
    spread_again c.low_taps.result.now c.args.x.now c.low_taps.ensures.light c.requires.items_in_range (length c.low_taps.result.now) (c.args.at + 1) c.with_all-2.result.1 c.with_all-2.ensures.odd

pub rounded_lanes-requires-2-clause-sums : goal.rounded_lanes-requires-2-clause-sums
rounded_lanes-requires-2-clause-sums c = near_again (2 ^ 60) (2 ^ 60) c.joined-2.result (omega arith) (omega arith) c.joined-2.ensures.within

pub nearest_shorts-odd-requires : goal.nearest_shorts-odd-requires
nearest_shorts-odd-requires c = near_again (2 ^ 61) (2 ^ 61) c.rounded_lanes-2.result (omega arith) (omega arith) c.rounded_lanes-2.ensures.within

pub returns : goal.returns
returns c =
    let h = c.args.h.now in
    let x = c.args.x.now in
    let at = c.args.at in
    let high_even = c.with_all.ensures.even ∙ ap (λ taps. spread_sums taps x (length taps) at) c.high_taps.ensures.value in
    let low_even = c.with_all-2.ensures.even ∙ ap (λ taps. spread_sums taps x (length taps) at) c.low_taps.ensures.value in
    let even = wide_lanes_are Short h x c.args.shift at c.joined.result c.rounded_lanes.result c.nearest_shorts-even.result
    (sums_joined h c.args.halves.now.high c.args.halves.now.low c.requires.halves x c.requires.most c.requires.items_in_range at c.with_all.result.0 c.with_all-2.result.0 c.joined.result high_even low_even c.joined.ensures.value)
    c.joined.ensures.within c.rounded_lanes.ensures.value c.rounded_lanes.ensures.within c.nearest_shorts-even.ensures in
    let high_odd = c.with_all.ensures.odd ∙ ap (λ taps. spread_sums taps x (length taps) (at + 1)) c.high_taps.ensures.value in
    let low_odd = c.with_all-2.ensures.odd ∙ ap (λ taps. spread_sums taps x (length taps) (at + 1)) c.low_taps.ensures.value in
    let odd = wide_lanes_are Short h x c.args.shift (at + 1) c.joined-2.result c.rounded_lanes-2.result c.nearest_shorts-odd.result
    (sums_joined h c.args.halves.now.high c.args.halves.now.low c.requires.halves x c.requires.most c.requires.items_in_range (at + 1) c.with_all.result.1 c.with_all-2.result.1 c.joined-2.result high_odd low_odd c.joined-2.ensures.value)
    c.joined-2.ensures.within c.rounded_lanes-2.ensures.value c.rounded_lanes-2.ensures.within c.nearest_shorts-odd.ensures in
    sixteen_more Short w16 short_sat h x c.args.shift at c.nearest_shorts-even.result c.nearest_shorts-odd.result c.args.out.now even odd c.requires.place c.requires.done
