use Rattle.std.proofs.Common.{◌≡◌, ◌+◌, ◌-◌, ◌^◌, length, pos, arith, w16}
use mir.Val.{of_z, to_z}
use Rattle.std.proofs.lemmas.Int.{to_z-of_z}
use Rattle.stream_model.specs.Lists.{item}
use Rattle.numbers.proofs.Widths.{short_fits}
use Rattle.lane_filters.proofs.IntLanes.{met_again, rest_in_range, wide_again, wide_step}
use Rattle.lane_filters.proofs.Signed.{near_again}
use Rattle.lane_filters.proofs.ints.with_tap.Goals as goal

pub times-requires : goal.times-requires
times-requires c = met_again _ (rest_in_range c.args.x.now (c.args.at + (length c.args.h.now - 1 - c.args.j)) c.requires.items_in_range) 0 c.spread.result.0 c.spread.ensures.lower

pub times-requires-2 : goal.times-requires-2
times-requires-2 c = met_again _ (rest_in_range c.args.x.now (c.args.at + (length c.args.h.now - 1 - c.args.j)) c.requires.items_in_range) 1 c.spread.result.1 c.spread.ensures.upper

pub added-even-requires-clause-left : goal.added-even-requires-clause-left
added-even-requires-clause-left c =
    wide_again c.args.h.now c.args.x.now c.requires.taps_in_range c.requires.items_in_range c.args.j c.args.at (omega arith) c.requires.most c.args.even c.requires.even

pub added-even-requires-clause-right : goal.added-even-requires-clause-right
added-even-requires-clause-right c = near_again (2 ^ 46) (2 ^ 60) c.times.result (omega arith) (omega arith) c.times.ensures.within

pub added-odd-requires-clause-left : goal.added-odd-requires-clause-left
added-odd-requires-clause-left c =
    wide_again c.args.h.now c.args.x.now c.requires.taps_in_range c.requires.items_in_range c.args.j (c.args.at + 1) (omega arith) c.requires.most c.args.odd c.requires.odd

pub added-odd-requires-clause-right : goal.added-odd-requires-clause-right
added-odd-requires-clause-right c = near_again (2 ^ 46) (2 ^ 60) c.times-2.result (omega arith) (omega arith) c.times-2.ensures.within

pub returns-clause-even : goal.returns-clause-even
returns-clause-even c =
    let h = c.args.h.now in
    let j = c.args.j in
    let tap : to_z w16 (of_z w16 (item h j)) ≡ item h j = to_z-of_z w16 (item h j) (short_fits (item h j) (c.requires.taps_in_range j (pos 0) c.requires.tap)) in
    wide_step h c.args.x.now c.requires.taps_in_range c.requires.items_in_range c.requires.most j c.args.at (c.args.at + (length h - 1 - j)) 0 c.requires.tap (omega arith)
    c.args.even c.spread.result.0 c.times.result c.added-even.result (to_z w16 (of_z w16 (item h j)))
    c.requires.even c.spread.ensures.lower tap c.times.ensures.value c.times.ensures.within c.added-even.ensures

pub returns-clause-odd : goal.returns-clause-odd
returns-clause-odd c =
    let h = c.args.h.now in
    let j = c.args.j in
    let tap : to_z w16 (of_z w16 (item h j)) ≡ item h j = to_z-of_z w16 (item h j) (short_fits (item h j) (c.requires.taps_in_range j (pos 0) c.requires.tap)) in
    wide_step h c.args.x.now c.requires.taps_in_range c.requires.items_in_range c.requires.most j (c.args.at + 1) (c.args.at + (length h - 1 - j)) 1 c.requires.tap (omega arith)
    c.args.odd c.spread.result.1 c.times-2.result c.added-odd.result (to_z w16 (of_z w16 (item h j)))
    c.requires.odd c.spread.ensures.upper tap c.times-2.ensures.value c.times-2.ensures.within c.added-odd.ensures
