use Rattle.std.proofs.Common.{◌≡◌, map, take}
use Rattle.slices.specs.Cuts.{part_of}
use Rattle.slices.proofs.plan.Plan.slice.Given as goal

abbrev pub invariant-loop-sink : goal.invariant-loop-sink
invariant-loop-sink g l = l.parts.items ≡ map (part_of l.begins l.from) (take l.sink-index l.self.sinks.items)
