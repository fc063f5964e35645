use Rattle.plant.proofs.Spans.{handed_whole}
use Rattle.plant.proofs.parts.Parts.handed.Goals as goal

pub copies-requires : goal.copies-requires
copies-requires g c = handed_whole c.args.self.now.stores c.requires c.deref.result.now c.deref.ensures.value
