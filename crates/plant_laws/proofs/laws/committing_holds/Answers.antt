use Rattle.plant_laws.proofs.Committing.{committing_holds}
use Rattle.plant_laws.proofs.laws.committing_holds.Goals as goal

pub returns : goal.returns
returns c = committing_holds
