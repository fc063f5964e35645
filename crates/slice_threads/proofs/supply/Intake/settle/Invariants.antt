use Rattle.slice_threads.specs.Cutting.{CutsAlike}
use Rattle.slice_threads.proofs.supply.Intake.settle.Given as goal

abbrev pub invariant-loop : goal.invariant-loop
invariant-loop g l =
    (goal.iterator-loop g).can_next l.iterator' × (goal.iterator-loop g).is_finite l.iterator' × CutsAlike l.fn.self.feeds l.self.feeds
