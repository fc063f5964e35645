use Rattle.std.proofs.Common.{◌≡◌, suc, map, vec_len, vec_capacity}
use Rattle.stream_model.specs.Lists.{listed}
use Rattle.math_blocks.specs.Holding.{held_from}
use Rattle.math_blocks.proofs.sample_and_hold.hold.Given as goal

abbrev pub invariant-loop-k : goal.invariant-loop-k
invariant-loop-k g l = record {
  items : map g.T.Number.number l.out.items ≡ listed l.k (λ k. held_from (g.T.Number.number l.fn.held) (map g.T.Number.number l.items) (map g.T.Number.number l.control) (suc k));
  last : g.T.Number.number l.last ≡ held_from (g.T.Number.number l.fn.held) (map g.T.Number.number l.items) (map g.T.Number.number l.control) l.k;
  len : vec_len l.out ≡ l.k;
  capacity : vec_capacity l.out ≡ vec_capacity l.fn.out;
}
