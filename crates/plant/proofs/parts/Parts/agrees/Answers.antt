use Rattle.plant.proofs.Spans.{handed_whole}
use Rattle.plant.proofs.parts.Parts.agrees.Goals as goal

pub are_of-requires : goal.are_of-requires
are_of-requires g c = handed_whole c.args.self.now.stores c.requires c.deref-2.result.now c.deref-2.ensures.value
