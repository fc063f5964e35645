use Rattle.std.proofs.Common.{◌+◌, ◌-◌, ◌*◌, length, arith}
use Rattle.lane_filters.proofs.NarrowSums.{taps_light, left_in_range, step_left, step_right, step_near, stepped, pair_more}
use Rattle.lane_filters.proofs.pairs.with_pair.Goals as goal

pub pair_sums-requires-clause-light : goal.pair_sums-requires-clause-light
pair_sums-requires-clause-light c = taps_light c.args.h.now c.args.pair c.requires.taps c.requires.light c.requires.taps_in_range

pub pair_sums-requires-2-clause-light : goal.pair_sums-requires-2-clause-light
pair_sums-requires-2-clause-light c = taps_light c.args.h.now c.args.pair c.requires.taps c.requires.light c.requires.taps_in_range

pub pair_sums-requires-clause-items : goal.pair_sums-requires-clause-items
pair_sums-requires-clause-items c = left_in_range c.args.x.now (c.args.at + (length c.args.h.now - 2 - 2 * c.args.pair)) c.requires.items_in_range

pub pair_sums-requires-2-clause-items : goal.pair_sums-requires-2-clause-items
pair_sums-requires-2-clause-items c = left_in_range c.args.x.now (c.args.at + (length c.args.h.now - 2 - 2 * c.args.pair) + 1) c.requires.items_in_range

pub added_exactly-even-requires-clause-left : goal.added_exactly-even-requires-clause-left
added_exactly-even-requires-clause-left c =
    step_left c.args.h.now c.args.x.now c.requires.light c.requires.items_in_range (2 * c.args.pair) (2 * (c.args.pair + 1)) c.args.at c.args.even c.pair_sums.result c.requires.even c.pair_sums.ensures.within
    (pair_more c.args.h.now c.args.x.now c.args.pair (c.args.at + (length c.args.h.now - 2 - 2 * c.args.pair)) c.args.at c.requires.taps (omega arith) c.requires.taps_in_range c.args.even c.pair_sums.result c.requires.even c.pair_sums.ensures.value)

pub added_exactly-even-requires-clause-right : goal.added_exactly-even-requires-clause-right
added_exactly-even-requires-clause-right c =
    step_right c.args.h.now c.args.x.now c.requires.light c.requires.items_in_range (2 * c.args.pair) (2 * (c.args.pair + 1)) c.args.at c.args.even c.pair_sums.result c.requires.even c.pair_sums.ensures.within
    (pair_more c.args.h.now c.args.x.now c.args.pair (c.args.at + (length c.args.h.now - 2 - 2 * c.args.pair)) c.args.at c.requires.taps (omega arith) c.requires.taps_in_range c.args.even c.pair_sums.result c.requires.even c.pair_sums.ensures.value)

pub added_exactly-even-requires-clause-sums : goal.added_exactly-even-requires-clause-sums
added_exactly-even-requires-clause-sums c =
    step_near c.args.h.now c.args.x.now c.requires.light c.requires.items_in_range (2 * c.args.pair) (2 * (c.args.pair + 1)) c.args.at c.args.even c.pair_sums.result c.requires.even c.pair_sums.ensures.within
    (pair_more c.args.h.now c.args.x.now c.args.pair (c.args.at + (length c.args.h.now - 2 - 2 * c.args.pair)) c.args.at c.requires.taps (omega arith) c.requires.taps_in_range c.args.even c.pair_sums.result c.requires.even c.pair_sums.ensures.value)

pub added_exactly-odd-requires-clause-left : goal.added_exactly-odd-requires-clause-left
added_exactly-odd-requires-clause-left c =
    step_left c.args.h.now c.args.x.now c.requires.light c.requires.items_in_range (2 * c.args.pair) (2 * (c.args.pair + 1)) (c.args.at + 1) c.args.odd c.pair_sums-2.result c.requires.odd c.pair_sums-2.ensures.within
    (pair_more c.args.h.now c.args.x.now c.args.pair (c.args.at + (length c.args.h.now - 2 - 2 * c.args.pair) + 1) (c.args.at + 1) c.requires.taps (omega arith) c.requires.taps_in_range c.args.odd c.pair_sums-2.result c.requires.odd c.pair_sums-2.ensures.value)

pub added_exactly-odd-requires-clause-right : goal.added_exactly-odd-requires-clause-right
added_exactly-odd-requires-clause-right c =
    step_right c.args.h.now c.args.x.now c.requires.light c.requires.items_in_range (2 * c.args.pair) (2 * (c.args.pair + 1)) (c.args.at + 1) c.args.odd c.pair_sums-2.result c.requires.odd c.pair_sums-2.ensures.within
    (pair_more c.args.h.now c.args.x.now c.args.pair (c.args.at + (length c.args.h.now - 2 - 2 * c.args.pair) + 1) (c.args.at + 1) c.requires.taps (omega arith) c.requires.taps_in_range c.args.odd c.pair_sums-2.result c.requires.odd c.pair_sums-2.ensures.value)

pub added_exactly-odd-requires-clause-sums : goal.added_exactly-odd-requires-clause-sums
added_exactly-odd-requires-clause-sums c =
    step_near c.args.h.now c.args.x.now c.requires.light c.requires.items_in_range (2 * c.args.pair) (2 * (c.args.pair + 1)) (c.args.at + 1) c.args.odd c.pair_sums-2.result c.requires.odd c.pair_sums-2.ensures.within
    (pair_more c.args.h.now c.args.x.now c.args.pair (c.args.at + (length c.args.h.now - 2 - 2 * c.args.pair) + 1) (c.args.at + 1) c.requires.taps (omega arith) c.requires.taps_in_range c.args.odd c.pair_sums-2.result c.requires.odd c.pair_sums-2.ensures.value)

pub returns-clause-even : goal.returns-clause-even
returns-clause-even c =
    stepped c.args.h.now c.args.x.now c.requires.light c.requires.items_in_range (2 * c.args.pair) (2 * (c.args.pair + 1)) c.args.at c.args.even c.pair_sums.result c.requires.even c.pair_sums.ensures.within
    (pair_more c.args.h.now c.args.x.now c.args.pair (c.args.at + (length c.args.h.now - 2 - 2 * c.args.pair)) c.args.at c.requires.taps (omega arith) c.requires.taps_in_range c.args.even c.pair_sums.result c.requires.even c.pair_sums.ensures.value) c.added_exactly-even.result c.added_exactly-even.ensures

pub returns-clause-odd : goal.returns-clause-odd
returns-clause-odd c =
    stepped c.args.h.now c.args.x.now c.requires.light c.requires.items_in_range (2 * c.args.pair) (2 * (c.args.pair + 1)) (c.args.at + 1) c.args.odd c.pair_sums-2.result c.requires.odd c.pair_sums-2.ensures.within
    (pair_more c.args.h.now c.args.x.now c.args.pair (c.args.at + (length c.args.h.now - 2 - 2 * c.args.pair) + 1) (c.args.at + 1) c.requires.taps (omega arith) c.requires.taps_in_range c.args.odd c.pair_sums-2.result c.requires.odd c.pair_sums-2.ensures.value) c.added_exactly-odd.result c.added_exactly-odd.ensures
