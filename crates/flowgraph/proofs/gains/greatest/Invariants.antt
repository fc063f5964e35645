use Rattle.std.proofs.Common.{◌≡◌, max, take}
use Rattle.std.specs.List.{fold}
use Rattle.flowgraph.proofs.gains.greatest.Given as goal

abbrev pub invariant-loop-gain : goal.invariant-loop-gain
invariant-loop-gain l = l.greatest ≡ fold max 1 (take l.gain-index l.gains)
