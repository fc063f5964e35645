use Rattle.std.proofs.Common.{◌≡◌, ◌&&◌, nat_le, nat_lt, map, drop}
use Rattle.std.specs.List.{list_all}
use Rattle.plant_storage.specs.Stores.{mark_of}
use Rattle.plant.proofs.checks.fit.Given as goal

abbrev pub invariant-loop-mark : goal.invariant-loop-mark
invariant-loop-mark l =
    list_all (λ m. nat_le l.first m.offset && nat_lt m.offset l.end) (map mark_of l.marks) ≡ list_all (λ m. nat_le l.first m.offset && nat_lt m.offset l.end) (map mark_of (drop l.mark-index l.marks))
