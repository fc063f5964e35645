use Rattle.std.proofs.Common.{◌+◌, ◌^◌, length, sym, subst, arith, w32}
use Rattle.stream_model.specs.declared.vocabulary.ItemType.TheVariants.{Int}
use Rattle.lane_filters.specs.Words.{AreWithin}
use Rattle.lane_filters.proofs.Capped.{int_sat}
use Rattle.lane_filters.proofs.IntLanes.{wide_again, wide_near}
use Rattle.lane_filters.proofs.Signed.{near_again}
use Rattle.lane_filters.proofs.Woven.{sixteen_more, wide_lanes_are}
use Rattle.lane_filters.proofs.ints.write_sixteen.Goals as goal

pub rounded_lanes-requires-clause-sums : goal.rounded_lanes-requires-clause-sums
rounded_lanes-requires-clause-sums c =
    wide_again c.args.h.now c.args.x.now c.requires.taps_in_range c.requires.items_in_range (length c.args.h.now) c.args.at (omega arith) c.requires.most c.args.even c.requires.even

pub rounded_lanes-requires-2-clause-sums : goal.rounded_lanes-requires-2-clause-sums
rounded_lanes-requires-2-clause-sums c =
    wide_again c.args.h.now c.args.x.now c.requires.taps_in_range c.requires.items_in_range (length c.args.h.now) (c.args.at + 1) (omega arith) c.requires.most c.args.odd c.requires.odd

pub nearest_ints-even-requires : goal.nearest_ints-even-requires
nearest_ints-even-requires c = near_again (2 ^ 61) (2 ^ 61) c.rounded_lanes.result (omega arith) (omega arith) c.rounded_lanes.ensures.within

pub nearest_ints-odd-requires : goal.nearest_ints-odd-requires
nearest_ints-odd-requires c = near_again (2 ^ 61) (2 ^ 61) c.rounded_lanes-2.result (omega arith) (omega arith) c.rounded_lanes-2.ensures.within

pub returns : goal.returns
returns c =
    let h = c.args.h.now in
    let x = c.args.x.now in
    let at = c.args.at in
    let near = wide_near h x c.requires.taps_in_range c.requires.items_in_range (length h) in
    let even = wide_lanes_are Int h x c.args.shift at c.args.even c.rounded_lanes.result c.nearest_ints-even.result c.requires.even
    (subst (AreWithin (2 ^ 60)) (sym c.requires.even) (near at (omega arith) c.requires.most))
    c.rounded_lanes.ensures.value c.rounded_lanes.ensures.within c.nearest_ints-even.ensures in
    let odd = wide_lanes_are Int h x c.args.shift (at + 1) c.args.odd c.rounded_lanes-2.result c.nearest_ints-odd.result c.requires.odd
    (subst (AreWithin (2 ^ 60)) (sym c.requires.odd) (near (at + 1) (omega arith) c.requires.most))
    c.rounded_lanes-2.ensures.value c.rounded_lanes-2.ensures.within c.nearest_ints-odd.ensures in
    sixteen_more Int w32 int_sat h x c.args.shift at c.nearest_ints-even.result c.nearest_ints-odd.result c.args.out.now even odd
    c.requires.place c.requires.done
