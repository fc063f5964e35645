use Rattle.std.proofs.Common.{◌+◌, length, w16}
use Rattle.stream_model.specs.declared.vocabulary.ItemType.TheVariants.{Short}
use Rattle.lane_filters.proofs.Capped.{short_sat}
use Rattle.lane_filters.proofs.NarrowSums.{spread_again}
use Rattle.lane_filters.proofs.RoundedInts.{ints_again}
use Rattle.lane_filters.proofs.Woven.{lanes_are, sixteen_more}
use Rattle.lane_filters.proofs.pairs.write_sixteen.Goals as goal

pub rounded_ints-requires-clause-sums : goal.rounded_ints-requires-clause-sums
rounded_ints-requires-clause-sums c =
    spread_again c.args.h.now c.args.x.now c.requires.light c.requires.items_in_range (length c.args.h.now) c.args.at c.with_all.result.0 c.with_all.ensures.even

pub rounded_ints-requires-2-clause-sums : goal.rounded_ints-requires-2-clause-sums
rounded_ints-requires-2-clause-sums c =
    spread_again c.args.h.now c.args.x.now c.requires.light c.requires.items_in_range (length c.args.h.now) (c.args.at + 1) c.with_all.result.1 c.with_all.ensures.odd

pub capped_shorts-even-requires : goal.capped_shorts-even-requires
capped_shorts-even-requires c = ints_again c.rounded_ints.result c.rounded_ints.ensures.within

pub capped_shorts-odd-requires : goal.capped_shorts-odd-requires
capped_shorts-odd-requires c = ints_again c.rounded_ints-2.result c.rounded_ints-2.ensures.within

pub returns : goal.returns
returns c =
    let even = lanes_are c.args.h.now c.args.x.now c.requires.light c.requires.items_in_range c.args.shift c.args.at c.with_all.result.0 c.rounded_ints.result c.capped_shorts-even.result
    c.with_all.ensures.even c.rounded_ints.ensures.value c.rounded_ints.ensures.within c.capped_shorts-even.ensures in
    let odd = lanes_are c.args.h.now c.args.x.now c.requires.light c.requires.items_in_range c.args.shift (c.args.at + 1) c.with_all.result.1 c.rounded_ints-2.result c.capped_shorts-odd.result
    c.with_all.ensures.odd c.rounded_ints-2.ensures.value c.rounded_ints-2.ensures.within c.capped_shorts-odd.ensures in
    sixteen_more Short w16 short_sat c.args.h.now c.args.x.now c.args.shift c.args.at c.capped_shorts-even.result c.capped_shorts-odd.result c.args.out.now
    even odd c.requires.place c.requires.done
