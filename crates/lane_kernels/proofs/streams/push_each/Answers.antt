use Rattle.std.proofs.Common.{ℕ, ◌+◌, ◌*◌, map, arith}
use Rattle.stream_model.specs.Lists.{item}
use Rattle.lane_kernels.proofs.Appended.{read_number, listed_more, step_within}
use Rattle.lane_kernels.proofs.streams.push_each.Goals as goal

pub loop-k-preserved : goal.loop-k-preserved
loop-k-preserved g c =
    let number = g.T.Number.number in
    let items = c.args.items.now in
    record {
      items = listed_more number (λ (k : ℕ). item (map number items) (k * c.args.step + c.args.port)) c.loop-k.k _ c.loop-k.made.items c.push_reserved.new.self.items c.index-items-k.result
          c.push_reserved.ensures.items c.loop-k.invariant.items (read_number number items _ c.index-items-k.result c.index-items-k.is
          (step_within c.loop-k.k c.args.count c.args.step c.args.port _ c.loop-k-test.true c.requires.port c.requires.there));
      capacity = omega (arith, c.push_reserved.ensures.capacity, c.loop-k.invariant.capacity);
      room = omega (arith, c.loop-k.invariant.room, c.push_reserved.ensures.len, c.push_reserved.ensures.capacity, c.loop-k-test.true);
    }
