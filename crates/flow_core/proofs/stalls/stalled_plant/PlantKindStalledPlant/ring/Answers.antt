use Rattle.std.proofs.Common.{length}
use Rattle.flow_core.proofs.Rings.{all_inside, ring_inside}
use Rattle.flow_core.proofs.stalls.stalled_plant.PlantKindStalledPlant.ring.Goals as goal

pub returns-clause-inside : goal.returns-clause-inside
returns-clause-inside c =
    let p = c.args.self.now in
    all_inside c.ring.result _ (length p.graph.blocks) c.ring.ensures.value (ring_inside p c.recall.ensures.runs c.recall.ensures.sound.progress_count)
