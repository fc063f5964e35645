use Rattle.std.proofs.Common.{◌≡◌, ◌+◌, ◌*◌, ◌/◌, ◌∙◌, length, refl, arith}
use Rattle.lane_filters.specs.Words.{spread_sums}
use Rattle.lane_filters.proofs.NarrowSums.{spread_back}
use Rattle.lane_filters.proofs.halves.write_halves.Goals as goal

pub loop-pair-init : goal.loop-pair-init
loop-pair-init c = (refl, refl, refl, refl, refl, refl, refl, refl)

pub with_pair-highs-requires-clause-even : goal.with_pair-highs-requires-clause-even
with_pair-highs-requires-clause-even c =
    spread_back c.high_taps-high.result.now c.args.x.now c.high_taps-high.ensures.light c.requires.items_in_range (2 * c.loop-pair.pair) c.args.at c.loop-pair.highs.0 c.loop-pair.invariant.0

pub with_pair-highs-requires-clause-odd : goal.with_pair-highs-requires-clause-odd
with_pair-highs-requires-clause-odd c =
    spread_back c.high_taps-high.result.now c.args.x.now c.high_taps-high.ensures.light c.requires.items_in_range (2 * c.loop-pair.pair) (c.args.at + 1) c.loop-pair.highs.1 c.loop-pair.invariant.1

pub with_pair-lows-requires-clause-even : goal.with_pair-lows-requires-clause-even
with_pair-lows-requires-clause-even c =
    spread_back c.low_taps-low.result.now c.args.x.now c.low_taps-low.ensures.light c.requires.items_in_range (2 * c.loop-pair.pair) c.args.at c.loop-pair.lows.0 c.loop-pair.invariant.2

pub with_pair-lows-requires-clause-odd : goal.with_pair-lows-requires-clause-odd
with_pair-lows-requires-clause-odd c =
    spread_back c.low_taps-low.result.now c.args.x.now c.low_taps-low.ensures.light c.requires.items_in_range (2 * c.loop-pair.pair) (c.args.at + 1) c.loop-pair.lows.1 c.loop-pair.invariant.3

pub with_pair-next_highs-requires-clause-even : goal.with_pair-next_highs-requires-clause-even
with_pair-next_highs-requires-clause-even c =
    spread_back c.high_taps-high.result.now c.args.x.now c.high_taps-high.ensures.light c.requires.items_in_range (2 * c.loop-pair.pair) (c.args.at + 16) c.loop-pair.next_highs.0 c.loop-pair.invariant.4

pub with_pair-next_highs-requires-clause-odd : goal.with_pair-next_highs-requires-clause-odd
with_pair-next_highs-requires-clause-odd c =
    spread_back c.high_taps-high.result.now c.args.x.now c.high_taps-high.ensures.light c.requires.items_in_range (2 * c.loop-pair.pair) (c.args.at + 16 + 1) c.loop-pair.next_highs.1 c.loop-pair.invariant.5

pub with_pair-next_lows-requires-clause-even : goal.with_pair-next_lows-requires-clause-even
with_pair-next_lows-requires-clause-even c =
    spread_back c.low_taps-low.result.now c.args.x.now c.low_taps-low.ensures.light c.requires.items_in_range (2 * c.loop-pair.pair) (c.args.at + 16) c.loop-pair.next_lows.0 c.loop-pair.invariant.6

pub with_pair-next_lows-requires-clause-odd : goal.with_pair-next_lows-requires-clause-odd
with_pair-next_lows-requires-clause-odd c =
    spread_back c.low_taps-low.result.now c.args.x.now c.low_taps-low.ensures.light c.requires.items_in_range (2 * c.loop-pair.pair) (c.args.at + 16 + 1) c.loop-pair.next_lows.1 c.loop-pair.invariant.7

pub loop-pair-preserved : goal.loop-pair-preserved
loop-pair-preserved c = (
  c.with_pair-highs.ensures.even,
  c.with_pair-highs.ensures.odd,
  c.with_pair-lows.ensures.even,
  c.with_pair-lows.ensures.odd,
  c.with_pair-next_highs.ensures.even,
  c.with_pair-next_highs.ensures.odd,
  c.with_pair-next_lows.ensures.even,
  c.with_pair-next_lows.ensures.odd,
)

pub write_sixteen-requires-clause-high_even : goal.write_sixteen-requires-clause-high_even
write_sixteen-requires-clause-high_even c =
    let all : c.loop-pair.pair ≡ length c.args.h.now / 2 = omega arith in
    c.loop-pair.invariant.0 ∙ (λ i. spread_sums (c.high_taps-high.ensures.value i) c.args.x.now (2 * all i) c.args.at)

pub write_sixteen-requires-clause-high_odd : goal.write_sixteen-requires-clause-high_odd
write_sixteen-requires-clause-high_odd c =
    let all : c.loop-pair.pair ≡ length c.args.h.now / 2 = omega arith in
    c.loop-pair.invariant.1 ∙ (λ i. spread_sums (c.high_taps-high.ensures.value i) c.args.x.now (2 * all i) (c.args.at + 1))

pub write_sixteen-requires-clause-low_even : goal.write_sixteen-requires-clause-low_even
write_sixteen-requires-clause-low_even c =
    let all : c.loop-pair.pair ≡ length c.args.h.now / 2 = omega arith in
    c.loop-pair.invariant.2 ∙ (λ i. spread_sums (c.low_taps-low.ensures.value i) c.args.x.now (2 * all i) c.args.at)

pub write_sixteen-requires-clause-low_odd : goal.write_sixteen-requires-clause-low_odd
write_sixteen-requires-clause-low_odd c =
    let all : c.loop-pair.pair ≡ length c.args.h.now / 2 = omega arith in
    c.loop-pair.invariant.3 ∙ (λ i. spread_sums (c.low_taps-low.ensures.value i) c.args.x.now (2 * all i) (c.args.at + 1))

pub write_sixteen-requires-2-clause-high_even : goal.write_sixteen-requires-2-clause-high_even
write_sixteen-requires-2-clause-high_even c =
    let all : c.loop-pair.pair ≡ length c.args.h.now / 2 = omega arith in
    c.loop-pair.invariant.4 ∙ (λ i. spread_sums (c.high_taps-high.ensures.value i) c.args.x.now (2 * all i) (c.args.at + 16))

pub write_sixteen-requires-2-clause-high_odd : goal.write_sixteen-requires-2-clause-high_odd
write_sixteen-requires-2-clause-high_odd c =
    let all : c.loop-pair.pair ≡ length c.args.h.now / 2 = omega arith in
    c.loop-pair.invariant.5 ∙ (λ i. spread_sums (c.high_taps-high.ensures.value i) c.args.x.now (2 * all i) (c.args.at + 16 + 1))

pub write_sixteen-requires-2-clause-low_even : goal.write_sixteen-requires-2-clause-low_even
write_sixteen-requires-2-clause-low_even c =
    let all : c.loop-pair.pair ≡ length c.args.h.now / 2 = omega arith in
    c.loop-pair.invariant.6 ∙ (λ i. spread_sums (c.low_taps-low.ensures.value i) c.args.x.now (2 * all i) (c.args.at + 16))

pub write_sixteen-requires-2-clause-low_odd : goal.write_sixteen-requires-2-clause-low_odd
write_sixteen-requires-2-clause-low_odd c =
    let all : c.loop-pair.pair ≡ length c.args.h.now / 2 = omega arith in
    c.loop-pair.invariant.7 ∙ (λ i. spread_sums (c.low_taps-low.ensures.value i) c.args.x.now (2 * all i) (c.args.at + 16 + 1))
