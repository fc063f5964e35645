use Rattle.kinds.specs.Kind.{meaning_of}
use Rattle.flow_core.proofs.Needing.{need_inside}
use Rattle.flow_core.proofs.stalls.stalled_plant.StreamingPlantKindStalledPlant.need.Goals as goal

pub returns-clause-inside : goal.returns-clause-inside
returns-clause-inside c = need_inside meaning_of c.args.self.now.plant c.recall.ensures.runs c.args.block.0 c.requires c.in-Ok.need c.in-Ok.ensures
