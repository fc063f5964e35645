use Rattle.std.proofs.Common.{◌≡◌, map, take}
use Rattle.magbelu_c.specs.Cuts.{sink_row}
use Rattle.magbelu_c.proofs.cuts.sink_rows.Given as goal

abbrev pub invariant-loop-sink : goal.invariant-loop-sink
invariant-loop-sink l = l.rows.items ≡ map sink_row (take l.sink-index l.sinks)
