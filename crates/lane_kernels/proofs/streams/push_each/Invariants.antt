use Rattle.std.proofs.Common.{◌≡◌, ◌≤◌, ◌+◌, ◌-◌, ◌++◌, map, vec_len, vec_capacity}
use Rattle.lane_kernels.specs.Streams.{deinterleaved}
use Rattle.lane_kernels.proofs.streams.push_each.Given as goal

abbrev pub invariant-loop-k : goal.invariant-loop-k
invariant-loop-k g l = record {
  items : map g.T.Number.number l.made.items ≡ map g.T.Number.number l.initial.made.items ++ deinterleaved l.k l.step l.port (map g.T.Number.number l.items);
  capacity : vec_capacity l.made ≡ vec_capacity l.initial.made;
  room : vec_len l.made + (l.count - l.k) ≤ vec_capacity l.made;
}
