use Rattle.std.proofs.Common.{◌≡◌, map, take, replicate, pos}
use Rattle.ring_readers.proofs.copies.are_zeros.Given as goal

abbrev pub invariant-loop-item : goal.invariant-loop-item
invariant-loop-item g l = map g.T.Number.number (take l.item-index l.items) ≡ replicate l.item-index (pos 0)
