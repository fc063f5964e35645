use Rattle.std.proofs.Common.{◌≡◌}
use Rattle.threads.specs.Outcomes.{handed_of}
use Rattle.threads.proofs.alone.settle_alone.Given as goal

abbrev pub invariant-rounds : goal.invariant-rounds
invariant-rounds g l = handed_of l.plant ≡ handed_of l.fn.plant
