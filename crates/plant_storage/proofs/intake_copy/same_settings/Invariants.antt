use Rattle.std.proofs.Common.{◌≡◌, map, drop}
use Rattle.std.specs.Prelude.{◌↔◌}
use Rattle.settings.specs.Values.{held_of}
use Rattle.plant_storage.proofs.intake_copy.same_settings.Given as goal

abbrev pub invariant-loop-held : goal.invariant-loop-held
invariant-loop-held l = (map held_of l.one ≡ map held_of l.other) ↔ (map held_of (drop l.held-index l.one) ≡ map held_of l.rest)
