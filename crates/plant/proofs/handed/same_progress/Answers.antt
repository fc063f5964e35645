use Rattle.plant.proofs.Sames.{same_progress}
use Rattle.plant.proofs.handed.same_progress.Goals as goal

pub returns : goal.returns
returns c = same_progress c.args.one.now c.args.other.now c.eq.result c.eq.ensures
