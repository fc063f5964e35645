use Rattle.std.proofs.Common.{◌≡◌}
use Rattle.threads.specs.Outcomes.{handed_of}
use Rattle.threads.proofs.alone.round_of.Given as goal

abbrev pub invariant-loop-block : goal.invariant-loop-block
invariant-loop-block g l = handed_of l.plant ≡ handed_of l.fn.plant
