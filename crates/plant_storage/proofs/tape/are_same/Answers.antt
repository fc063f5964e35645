use Rattle.plant_storage.proofs.Sames.{same_tags}
use Rattle.plant_storage.proofs.tape.are_same.Goals as goal

pub returns : goal.returns
returns c = same_tags c.args.one.now c.args.other.now c.eq.result c.eq.ensures
