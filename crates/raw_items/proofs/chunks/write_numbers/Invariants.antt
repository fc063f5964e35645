use Rattle.std.proofs.Common.{◌≡◌, map, take}
use Rattle.raw_items.specs.Values.{item_of}
use Rattle.raw_items.proofs.chunks.write_numbers.Given as goal

abbrev pub invariant-loop-i : goal.invariant-loop-i
invariant-loop-i g l = map g.T.Number.number (take l.i l.out) ≡ map (item_of g.T.Number.kind l.order) (take l.i l.parts)
