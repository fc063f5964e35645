use Rattle.std.proofs.Common.{map, refl}
use Rattle.plant_storage.specs.Stores.{handed_of}
use Rattle.plant.proofs.parts.Parts.own_need.Goals as goal

pub returns : goal.returns
returns g c =
    rw (← c.deref-2.ensures) (rw (← c.rows.ensures) (c.need.ensures (map handed_of c.args.self.now.stores.handed.items) (rw c.of.ensures refl)))
