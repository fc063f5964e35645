use Rattle.std.proofs.Common.{map, sym, ◌∙◌}
use Rattle.plant_storage.specs.Stores.{handed_of}
use Rattle.machine_laws.proofs.Wholes.{all_done_is_whole}
use Rattle.plant.proofs.plant.Plant.all_done.Goals as goal

pub returns-clause-value : goal.returns-clause-value
returns-clause-value g c = rw (← c.self.view_is) (c.all_done.ensures (map handed_of c.self.inside.parts.stores.handed.items))

pub returns-clause-whole : goal.returns-clause-whole
returns-clause-whole g c h =
    rw (← c.self.view_is) (all_done_is_whole _ _ _ (rw (← c.deref.ensures) c.recall.ensures.runs) c.self.invariant.right.keeps.sound (sym (c.all_done.ensures (map handed_of c.self.inside.parts.stores.handed.items)) ∙ h))
