use Rattle.std.proofs.Common.{◌≡◌}
use Rattle.machine_laws.specs.Waits.{lowest_live}
use Rattle.plant.specs.Plant.{plant_of}
use Rattle.plant.proofs.Following.{live_from}
use Rattle.plant.proofs.parts.Parts.lowest_live.Given as goal

abbrev pub invariant-loop-block : goal.invariant-loop-block
invariant-loop-block g l = live_from l.block l.self.firings ≡ lowest_live (plant_of l.self).state
