use Rattle.std.proofs.Common.{◌≡◌, ◌++◌, drop, map, length, vec_len, vec_capacity, ◌≤◌}
use Rattle.plant_storage.specs.Stores as stores
use Rattle.file_plants.specs.Opening.{mark_of}
use Rattle.file_plants.proofs.opening.marks_of.Given as goal

abbrev pub invariant-loop-mark : goal.invariant-loop-mark
invariant-loop-mark l =
    (map stores.mark_of l.taken.items ++ map mark_of (drop l.mark-index l.marks) ≡ map mark_of l.marks)
    × (vec_len l.taken ≡ l.mark-index) × (length l.marks ≤ vec_capacity l.taken)
