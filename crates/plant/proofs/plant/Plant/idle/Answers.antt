use Rattle.std.proofs.Common.{map}
use Rattle.plant_storage.specs.Stores.{handed_of}
use Rattle.plant.proofs.plant.Plant.idle.Goals as goal

pub returns : goal.returns
returns g c = rw (← c.self.view_is) (c.idle.ensures (map handed_of c.self.inside.parts.stores.handed.items))
