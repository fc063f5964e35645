use Rattle.plant_laws.proofs.Handing.{feeding_holds}
use Rattle.plant_laws.proofs.laws.feeding_holds.Goals as goal

pub returns : goal.returns
returns c = feeding_holds
