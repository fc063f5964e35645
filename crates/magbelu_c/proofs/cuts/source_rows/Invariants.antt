use Rattle.std.proofs.Common.{◌≡◌, map, take}
use Rattle.magbelu_c.specs.Cuts.{source_row}
use Rattle.magbelu_c.proofs.cuts.source_rows.Given as goal

abbrev pub invariant-loop-source : goal.invariant-loop-source
invariant-loop-source l = l.rows.items ≡ map source_row (take l.source-index l.sources)
