use Rattle.std.proofs.Common.{◌≡◌, ◌+◌, length, refl, arith}
use Rattle.lane_filters.proofs.IntLanes.{wide_back}
use Rattle.lane_filters.proofs.ints.write_ints.Goals as goal

pub loop-j-init : goal.loop-j-init
loop-j-init c = (refl, refl, refl, refl)

pub with_tap-requires-clause-even : goal.with_tap-requires-clause-even
with_tap-requires-clause-even c = c.loop-j.invariant.0

pub with_tap-requires-clause-odd : goal.with_tap-requires-clause-odd
with_tap-requires-clause-odd c = c.loop-j.invariant.1

pub with_tap-requires-in-loop-j-clause-even : goal.with_tap-requires-in-loop-j-clause-even
with_tap-requires-in-loop-j-clause-even c = c.loop-j.invariant.2

pub with_tap-requires-in-loop-j-clause-odd : goal.with_tap-requires-in-loop-j-clause-odd
with_tap-requires-in-loop-j-clause-odd c = c.loop-j.invariant.3

pub loop-j-preserved : goal.loop-j-preserved
loop-j-preserved c =
    let same = wide_back c.args.h.now c.args.x.now c.requires.taps_in_range c.requires.items_in_range (c.loop-j.j + 1) in (
      same c.args.at (omega arith) c.requires.most c.with_tap.result.0 c.with_tap.ensures.even,
      same (c.args.at + 1) (omega arith) c.requires.most c.with_tap.result.1 c.with_tap.ensures.odd,
      same (c.args.at + 16) (omega arith) c.requires.most c.with_tap-in-loop-j.result.0 c.with_tap-in-loop-j.ensures.even,
      same (c.args.at + 16 + 1) (omega arith) c.requires.most c.with_tap-in-loop-j.result.1 c.with_tap-in-loop-j.ensures.odd,
    )

pub write_sixteen-requires-clause-even : goal.write_sixteen-requires-clause-even
write_sixteen-requires-clause-even c = let all : c.loop-j.j ≡ length c.args.h.now = omega arith in rw all at c.loop-j.invariant.0

pub write_sixteen-requires-clause-odd : goal.write_sixteen-requires-clause-odd
write_sixteen-requires-clause-odd c = let all : c.loop-j.j ≡ length c.args.h.now = omega arith in rw all at c.loop-j.invariant.1

pub write_sixteen-requires-2-clause-even : goal.write_sixteen-requires-2-clause-even
write_sixteen-requires-2-clause-even c = let all : c.loop-j.j ≡ length c.args.h.now = omega arith in rw all at c.loop-j.invariant.2

pub write_sixteen-requires-2-clause-odd : goal.write_sixteen-requires-2-clause-odd
write_sixteen-requires-2-clause-odd c = let all : c.loop-j.j ≡ length c.args.h.now = omega arith in rw all at c.loop-j.invariant.3
