use Rattle.std.proofs.Common.{◌≡◌, map, take}
use Rattle.magbelu_c.specs.Cuts.{part_row}
use Rattle.magbelu_c.proofs.cuts.part_rows.Given as goal

abbrev pub invariant-loop-part : goal.invariant-loop-part
invariant-loop-part l = l.rows.items ≡ map part_row (take l.part-index l.parts)
