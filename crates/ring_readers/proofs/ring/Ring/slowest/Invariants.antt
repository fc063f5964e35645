use Rattle.std.proofs.Common.{◌≡◌, take, fold, None}
use Rattle.ring_readers.specs.State.{slower}
use Rattle.ring_readers.proofs.ring.Ring.slowest.Given as goal

abbrev pub invariant-loop-p : goal.invariant-loop-p
invariant-loop-p g l = l.found ≡ fold slower None (take l.p-index l.p-items)
