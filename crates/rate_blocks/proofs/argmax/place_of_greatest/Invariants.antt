use Rattle.std.proofs.Common.{◌≡◌, ◌<◌, map, take}
use Rattle.stream_model.specs.Numbers.{least_of}
use Rattle.kind_model.specs.Math.{greatest_down_to}
use Rattle.kind_model.specs.Rates.{place_of}
use Rattle.rate_blocks.proofs.argmax.place_of_greatest.Given as goal

abbrev pub invariant-loop-k : goal.invariant-loop-k
invariant-loop-k g l = record {
  greatest : g.T.Number.number l.greatest ≡ greatest_down_to (least_of g.T.Number.kind) (take l.k (map g.T.Number.number l.items));
  place : l.place ≡ place_of (g.T.Number.number l.greatest) (take l.k (map g.T.Number.number l.items));
  before : l.place < l.k;
}
