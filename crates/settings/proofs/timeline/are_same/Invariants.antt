use Rattle.std.proofs.Common.{◌≡◌, map}
use Rattle.std.specs.Prelude.{◌↔◌}
use Rattle.settings.specs.Values.{held_of, placed}
use Rattle.settings.proofs.timeline.are_same.Given as goal

abbrev pub invariant-loop-at : goal.invariant-loop-at
invariant-loop-at l =
    (goal.iterator-loop-at).can_next l.at-iterator × (goal.iterator-loop-at).is_finite l.at-iterator
    × ((map held_of l.held ≡ map placed l.fn.settings) ↔ (map held_of l.rest ≡ map placed l.at-iterator))
