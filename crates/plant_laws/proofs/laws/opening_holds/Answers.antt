use Rattle.plant_laws.proofs.Opening.{opening_holds}
use Rattle.plant_laws.proofs.laws.opening_holds.Goals as goal

pub returns : goal.returns
returns c = opening_holds
