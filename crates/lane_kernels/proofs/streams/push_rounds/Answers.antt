use Rattle.std.proofs.Common.{map, arith}
use Rattle.lane_kernels.proofs.Appended.{round_more, room_left}
use Rattle.lane_kernels.proofs.streams.push_rounds.Goals as goal

pub loop-round-preserved : goal.loop-round-preserved
loop-round-preserved g c =
    record {
      items = round_more (λ s. map g.T.Number.number s.now) c.args.streams.now c.loop-round.round _ _ _ c.loop-round.invariant.items c.push_round.ensures.items;
      capacity = omega (arith, c.push_round.ensures.capacity, c.loop-round.invariant.capacity);
      room = room_left _ _ _ _ _ _ _ c.loop-round-test.true c.push_round.ensures.len c.push_round.ensures.capacity c.loop-round.invariant.room;
    }
