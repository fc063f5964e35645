use Rattle.std.proofs.Common.{◌≡◌, ◌+◌, ◌++◌, map, take, vec_len, vec_capacity}
use Rattle.stream_model.specs.Lists.{item}
use Rattle.lane_kernels.proofs.streams.push_round.Given as goal

abbrev pub invariant-loop-port : goal.invariant-loop-port
invariant-loop-port g l = record {
  items : map g.T.Number.number l.made.items ≡ map g.T.Number.number l.initial.made.items ++ map (λ s. item (map g.T.Number.number s.now) l.round) (take l.port l.streams);
  len : vec_len l.made ≡ vec_len l.initial.made + l.port;
  capacity : vec_capacity l.made ≡ vec_capacity l.initial.made;
}
