use Rattle.std.proofs.Common.{◌≡◌, map, drop}
use Rattle.std.specs.Prelude.{◌↔◌}
use Rattle.plant_storage.specs.Stores.{handed_of}
use Rattle.plant.proofs.handed.are_of.Given as goal

abbrev pub invariant-loop-intake : goal.invariant-loop-intake
invariant-loop-intake l = (l.copies ≡ map handed_of l.handed) ↔ (l.rest ≡ map handed_of (drop l.intake-index l.handed))
