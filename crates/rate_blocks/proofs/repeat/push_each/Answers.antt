use Rattle.std.proofs.Common.{length, map, arith}
use Rattle.lane_kernels.proofs.Appended.{room_left}
use Rattle.item_dispatch.proofs.Written.{read_item}
use Rattle.rate_blocks.proofs.Copies.{copies_more, first_room}
use Rattle.rate_blocks.proofs.repeat.push_each.Goals as goal

pub push_copies-requires : goal.push_copies-requires
push_copies-requires g c = first_room c.args.n (length c.args.items.now) c.loop-at.at _ _ c.loop-at-test.true c.loop-at.invariant.room

pub loop-at-preserved : goal.loop-at-preserved
loop-at-preserved g c =
    let number = g.T.Number.number in
    record {
      items = copies_more number c.args.n (map number c.args.items.now) c.loop-at.at _ c.loop-at.made.items c.push_copies.new.made.items c.index-items-at.result c.push_copies.ensures.items
          c.loop-at.invariant.items (read_item number c.args.items.now c.loop-at.at c.index-items-at.result c.index-items-at.is c.loop-at-test.true);
      capacity = omega (arith, c.push_copies.ensures.capacity, c.loop-at.invariant.capacity);
      room = room_left c.args.n c.loop-at.at (length c.args.items.now) _ _ _ _ c.loop-at-test.true c.push_copies.ensures.len c.push_copies.ensures.capacity c.loop-at.invariant.room;
    }
