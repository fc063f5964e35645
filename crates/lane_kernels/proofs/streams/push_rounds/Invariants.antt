use Rattle.std.proofs.Common.{◌≡◌, ◌≤◌, ◌+◌, ◌-◌, ◌*◌, ◌++◌, map, length, vec_len, vec_capacity}
use Rattle.lane_kernels.specs.Streams.{interleaved}
use Rattle.lane_kernels.proofs.streams.push_rounds.Given as goal

abbrev pub invariant-loop-round : goal.invariant-loop-round
invariant-loop-round g l = record {
  items : map g.T.Number.number l.made.items ≡ map g.T.Number.number l.initial.made.items ++ interleaved l.round (map (λ s. map g.T.Number.number s.now) l.streams);
  capacity : vec_capacity l.made ≡ vec_capacity l.initial.made;
  room : vec_len l.made + length l.streams * (l.rounds - l.round) ≤ vec_capacity l.made;
}
