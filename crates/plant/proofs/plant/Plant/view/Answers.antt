use Rattle.plant_storage.specs.Stores.{stored_in}
use Rattle.plant.proofs.Spans.{sink_whole}
use Rattle.plant.proofs.plant.Plant.view.Goals as goal

pub view-requires-clause-kept : goal.view-requires-clause-kept
view-requires-clause-kept g c = sink_whole (stored_in c.self.inside.parts.stores) c.self.invariant.keeps.whole c.args.sink.0
