use Rattle.std.proofs.Common.{◌<◌, map, length, arith, sym, subst}
use Rattle.stream_model.specs.Lists.{item}
use Rattle.lane_kernels.proofs.Appended.{read_number, mapped_more}
use Rattle.lane_kernels.proofs.streams.push_round.Goals as goal

pub loop-port-preserved : goal.loop-port-preserved
loop-port-preserved g c =
    let number = g.T.Number.number in
    let streams = c.args.streams.now in
    let stream = c.index-streams-port.result in
    let there : c.args.round < length stream.now =
    subst (λ s. c.args.round < length s.now) (sym c.index-streams-port.is) (c.requires.within c.loop-port.port stream c.loop-port-test.true) in
    record {
      items = mapped_more number (λ s. item (map number s.now) c.args.round) c.loop-port.port streams stream _ c.loop-port.made.items c.push_reserved.new.self.items c.index-stream-round.result
          c.push_reserved.ensures.items c.loop-port.invariant.items c.loop-port-test.true c.index-streams-port.is
          (read_number number stream.now c.args.round c.index-stream-round.result c.index-stream-round.is there);
      len = omega (arith, c.push_reserved.ensures.len, c.loop-port.invariant.len);
      capacity = omega (arith, c.push_reserved.ensures.capacity, c.loop-port.invariant.capacity);
    }
