use Rattle.std.proofs.Common.{◌≡◌, ◌-◌, ◌+◌, ◌*◌, ◌<◌, map, take}
use Rattle.stream_model.specs.Lists.{listed}
use Rattle.kind_model.specs.BitStreams.{repacked}
use Rattle.lane_filters.proofs.Streams.{cut}
use Rattle.lane_filters.proofs.repacked.repack_by.Given as goal

-- the word has the bits from the item's first on, up to the last that was read
abbrev pub invariant-loop-held : goal.invariant-loop-held
invariant-loop-held g l = record {
  word : l.word ≡ cut l.read l.write l.k (map g.T.Number.number l.items) (l.n * l.l) l.held;
  place : l.n * l.l + l.held ≡ l.taken * l.k;
  few : l.held < l.l + l.k;
}

abbrev pub decreases-loop-held : goal.decreases-loop-held
decreases-loop-held g l = l.l - l.held

abbrev pub invariant-loop-n : goal.invariant-loop-n
invariant-loop-n g l = record {
  word : l.word ≡ cut l.read l.write l.k (map g.T.Number.number l.items) (l.n * l.l) l.held;
  place : l.n * l.l + l.held ≡ l.taken * l.k;
  few : l.held < l.k;
  written : take l.n (map g.T.Number.number l.out) ≡ listed l.n (repacked g.T.Number.kind l.k l.l l.read l.write (map g.T.Number.number l.items));
}
