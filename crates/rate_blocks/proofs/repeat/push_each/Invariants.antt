use Rattle.std.proofs.Common.{◌≡◌, ◌≤◌, ◌+◌, ◌-◌, ◌*◌, ◌++◌, map, length, vec_len, vec_capacity}
use Rattle.rate_blocks.specs.Repeats.{repeated}
use Rattle.rate_blocks.proofs.repeat.push_each.Given as goal

abbrev pub invariant-loop-at : goal.invariant-loop-at
invariant-loop-at g l = record {
  items : map g.T.Number.number l.made.items ≡ map g.T.Number.number l.initial.made.items ++ repeated l.n (map g.T.Number.number l.items) l.at;
  capacity : vec_capacity l.made ≡ vec_capacity l.initial.made;
  room : vec_len l.made + l.n * (length l.items - l.at) ≤ vec_capacity l.made;
}
