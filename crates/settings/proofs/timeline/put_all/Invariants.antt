use Rattle.std.proofs.Common.{◌≡◌, ◌≤◌, ◌++◌, take, map, length}
use Rattle.settings.specs.Values.{held_of, placed}
use Rattle.settings.proofs.timeline.put_all.Given as goal

abbrev pub invariant-loop-at : goal.invariant-loop-at
invariant-loop-at l =
    (goal.iterator-loop-at).can_next l.at-iterator × (goal.iterator-loop-at).is_finite l.at-iterator × (l.count ≤ length l.held.items)
    × (take l.count (map held_of l.held.items) ++ map placed l.at-iterator ≡ take l.place (map held_of l.fn.held.items) ++ map placed l.fn.settings)
